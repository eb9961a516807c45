-- What each step of an engine keeps.
use Rattle.std.proofs.Common.{zero, suc, ◌<◌, Option, None, ◌==◌, cond, Bool, true, false, ◌≡◌, ◌≢◌, ℕ, ◌+◌, ◌≤◌, List, [], ◌∷◌, ◌++◌, length, map, Some, slice_get, Result, Ok, Err, IfOk, IfErr, OnErr, refl, sym, ap, ◌∙◌, subst, arith, length-append}
use Rattle.std.proofs.lemmas.Bool.Decides.{nat_tests}
use Rattle.std.proofs.lemmas.Option.{slice_get_within}
use mathlib.Core.List.{IsPrefix}
use Rattle.live_log.specs.Appended.{Appended}
use Rattle.live_log.specs.declared.hall.Entered.{Entered}
use Rattle.live_log.specs.declared.hall.Entered.TheVariants.{Done, Refused, Memory}
use Rattle.lb_base.specs.declared.value.Record.{Record}
use Rattle.live_log.specs.WriterAndReader.{PlaceView}
use Rattle.live_log.specs.Engines.{appends_at, with_found, AllBelow, IsSoundByIndex, records_in, EachAtIndex, AscendingBy, next_index, IsSound}
use Rattle.live_log.proofs.Lists.{prefix_get, prefix_trans, prefix_self, prefix_length}

pub get_last : {A : Type 0} (xs : List A) (x : A) → slice_get (xs ++ x ∷ []) (length xs) ≡ Some x
get_last [] x = refl
get_last (y ∷ xs) x = get_last xs x

each_longer : (known now : List Appended) (appends : List (ℕ × Appended)) → IsPrefix known now → EachAtIndex known appends → EachAtIndex now appends
each_longer known now [] p h = tt
each_longer known now (q ∷ qs) p h = (prefix_get known now q.0 q.1 p h.0, each_longer known now qs p h.1)

-- where records stand in a list, their indexes are below its length
pub stands_below : (known : List Appended) (appends : List (ℕ × Appended)) → EachAtIndex known appends → AllBelow (length known) (map (λ own. own.0) appends)
stands_below known [] s = tt
stands_below known (p ∷ ps) s = (slice_get_within known p.0 p.1 s.0, stands_below known ps s.1)

each_new : (known : List Appended) (appends : List (ℕ × Appended)) (p : ℕ × Appended) → EachAtIndex known appends → slice_get known p.0 ≡ Some p.1 → EachAtIndex known (appends ++ p ∷ [])
each_new known [] p h new = (new, tt)
each_new known (q ∷ qs) p h new = (h.0, each_new known qs p h.1 new)

rising_new : (who from : ℕ) (appends : List (ℕ × Appended)) (p : ℕ × Appended) → AscendingBy who from appends → next_index from appends ≤ p.0 → p.1.0 ≡ who → AscendingBy who from (appends ++ p ∷ [])
rising_new who from [] p r le is = (le, is, tt)
rising_new who from (q ∷ qs) p r le is = (r.0, r.1, rising_new who (q.0 + 1) qs p r.2 le is)

after_new : (from : ℕ) (appends : List (ℕ × Appended)) (p : ℕ × Appended) → next_index from (appends ++ p ∷ []) ≡ p.0 + 1
after_new from [] p = refl
after_new from (q ∷ qs) p = after_new (q.0 + 1) qs p

module _ (who : ℕ) (seen known copied : List Appended) (appends : List (ℕ × Appended)) (parts amount : ℕ) (s : IsSound who seen known copied appends parts amount) where
  -- it learned of a longer list
  sound_learned : (now : List Appended) → IsPrefix known now → IsSound who seen now copied appends parts amount
  sound_learned now p = record {
    copied_is = s.copied_is;
    seen_is = prefix_trans seen known now s.seen_is p;
    rises = s.rises;
    within = omega (arith, s.within, prefix_length known now p);
    stands = each_longer known now appends p s.stands;
    one_part = s.one_part;
    counted = s.counted;
  }

  -- it has seen a list that goes on from what it knew
  sound_seen : (now copy : List Appended) → IsPrefix known now → IsPrefix copy now → IsSound who now now copy appends parts amount
  sound_seen now copy p c = record {
    copied_is = c;
    seen_is = prefix_self now;
    rises = s.rises;
    within = omega (arith, s.within, prefix_length known now p);
    stands = each_longer known now appends p s.stands;
    one_part = s.one_part;
    counted = s.counted;
  }

  -- it appended to the list, which went on from what it knew
  sound_own : (list : List Appended) (rec : Record) → IsPrefix known list
      → IsSound who seen (list ++ (who, rec) ∷ []) copied (appends ++ (length list, (who, rec)) ∷ []) parts (amount + 1)
  sound_own list rec p =
      let x : Appended = (who, rec) in
      let more : IsPrefix known (list ++ x ∷ []) = prefix_trans known list (list ++ x ∷ []) p (x ∷ [], refl) in record {
        copied_is = s.copied_is;
        seen_is = prefix_trans seen known (list ++ x ∷ []) s.seen_is more;
        rises = rising_new who 0 appends (length list, x) s.rises (omega (arith, s.within, prefix_length known list p)) refl;
        within = omega (arith, after_new 0 appends (length list, x), length-append list (x ∷ []));
        stands = each_new (list ++ x ∷ []) appends (length list, x) (each_longer known (list ++ x ∷ []) appends more s.stands) (get_last list x);
        one_part = s.one_part;
        counted = omega (arith, s.counted, length-append appends ((length list, x) ∷ []));
      }

got : {A : Type 0} (xs : List A) (k : ℕ) → k < length xs → (x : A) × (slice_get xs k ≡ Some x)
got [] k lt = absurd (omega (arith, lt))
got (x ∷ xs) zero lt = (x, refl)
got (x ∷ xs) (suc k) lt = got xs k (omega (arith, lt))

-- a longer list has the same records at these indexes
pub appends_at_longer : (known now : List Appended) (indexes : List ℕ) → AllBelow (length known) indexes → IsPrefix known now → appends_at now indexes ≡ appends_at known indexes
appends_at_longer known now [] b p = refl
appends_at_longer known now (q ∷ qs) b p =
    let x = got known q b.0 in
    rw (x.1, prefix_get known now q x.0 p x.1) (ap (λ l. (q, x.0) ∷ l) (appends_at_longer known now qs b.1 p))

below_longer : (n m : ℕ) (indexes : List ℕ) → n ≤ m → AllBelow n indexes → AllBelow m indexes
below_longer n m [] le b = tt
below_longer n m (q ∷ qs) le b = (omega (arith, b.0, le), below_longer n m qs le b.1)

below_new : (n m q : ℕ) (indexes : List ℕ) → n ≤ m → q < m → AllBelow n indexes → AllBelow m (indexes ++ q ∷ [])
below_new n m q [] le lt b = (lt, tt)
below_new n m q (r ∷ rs) le lt b = (omega (arith, b.0, le), below_new n m q rs le lt b.1)

appends_at_more : (known : List Appended) (indexes : List ℕ) (q : ℕ) (x : Appended) → slice_get known q ≡ Some x → appends_at known (indexes ++ q ∷ []) ≡ appends_at known indexes ++ (q, x) ∷ []
appends_at_more known [] q x is = rw is refl
appends_at_more known (r ∷ rs) q x is = at (slice_get known r) (appends_at known (rs ++ q ∷ [])) (appends_at known rs) (appends_at_more known rs q x is)
  where
    at : (o : Option Appended) (l m : List (ℕ × Appended)) → l ≡ m ++ (q, x) ∷ [] → with_found r o l ≡ with_found r o m ++ (q, x) ∷ []
    at None l m e = e
    at (Some y) l m e = ap (λ k. (r, y) ∷ k) e

-- an append adds itself
pub appends_at_own : (known list : List Appended) (indexes : List ℕ) (x : Appended) → AllBelow (length known) indexes → IsPrefix known list → appends_at (list ++ x ∷ []) (indexes ++ length list ∷ []) ≡ appends_at known indexes ++ (length list, x) ∷ []
appends_at_own known list indexes x b p =
    let more : IsPrefix known (list ++ x ∷ []) = prefix_trans known list (list ++ x ∷ []) p (x ∷ [], refl) in
    appends_at_more (list ++ x ∷ []) indexes (length list) x (get_last list x) ∙ ap (λ l. l ++ (length list, x) ∷ []) (appends_at_longer known (list ++ x ∷ []) indexes b more)

module _ (who : ℕ) (seen known copied : List Appended) (indexes : List ℕ) (parts amount : ℕ) (s : IsSoundByIndex who seen known copied indexes parts amount) where
  -- it learned of a longer list
  pub own_learned : (now : List Appended) → IsPrefix known now → IsSoundByIndex who seen now copied indexes parts amount
  own_learned now p = record {
    sound = rw (appends_at_longer known now indexes s.placed p) (sound_learned who seen known copied (appends_at known indexes) parts amount s.sound now p);
    placed = below_longer (length known) (length now) indexes (prefix_length known now p) s.placed;
  }

  own_seen : (now copy : List Appended) → IsPrefix known now → IsPrefix copy now → IsSoundByIndex who now now copy indexes parts amount
  own_seen now copy p c = record {
    sound = rw (appends_at_longer known now indexes s.placed p) (sound_seen who seen known copied (appends_at known indexes) parts amount s.sound now copy p c);
    placed = below_longer (length known) (length now) indexes (prefix_length known now p) s.placed;
  }

  -- it looked, and has seen what it met, or was refused
  pub own_entered : (r : Entered) (p : PlaceView) (copy : List Appended)
      → (r ≡ Refused → (p.seen ≡ seen) × (p.known ≡ known) × (copy ≡ copied))
      → (r ≢ Refused → IsPrefix known p.seen × (p.known ≡ p.seen))
      → IsPrefix copy p.seen → IsSoundByIndex who p.seen p.known copy indexes parts amount
  own_entered Refused p copy same new c = let e = same refl in rw (e.0, e.1, e.2) s
  own_entered Done p copy same new c = let n = new (λ e. cc) in rw n.1 (own_seen p.seen copy n.0 c)
  own_entered Memory p copy same new c = let n = new (λ e. cc) in rw n.1 (own_seen p.seen copy n.0 c)

  -- it appended a record, or nothing changed
  pub own_appended : {E : Type 0} (r : Result ℕ E) (P : Type 0) (p0 p : PlaceView) (list list' : List Appended) (rec : Record) (indexes' : List ℕ) (parts' amount' : ℕ)
      → p0.seen ≡ seen → p0.known ≡ known
      → IfOk r (λ n. (list' ≡ list ++ (who, rec) ∷ []) × (n ≡ length list') × IsPrefix p0.known list × (p ≡ record p0 { known = list' }) × (indexes' ≡ indexes ++ length list ∷ []) × (amount' ≡ amount + 1))
      → OnErr r P → (P → (indexes' ≡ indexes) × (amount' ≡ amount) × (p ≡ p0))
      → parts' ≡ parts → IsSoundByIndex who p.seen p.known copied indexes' parts' amount'
  own_appended (Ok n) P p0 p list list' rec indexes' parts' amount' vs vk ok err from same =
      let t : p.seen ≡ seen = ap (λ (q : PlaceView). q.seen) ok.3 ∙ vs in
      let k : p.known ≡ list ++ (who, rec) ∷ [] = ap (λ (q : PlaceView). q.known) ok.3 ∙ ok.0 in
      let begins : IsPrefix known list = subst (λ (l : List Appended). IsPrefix l list) vk ok.2 in
      let longer : length known ≤ length (list ++ (who, rec) ∷ []) = omega (arith, prefix_length known list begins, length-append list ((who, rec) ∷ [])) in
      rw (t, k, ok.4, ok.5, same) (record {
        sound = rw (appends_at_own known list indexes (who, rec) s.placed begins) (sound_own who seen known copied (appends_at known indexes) parts amount s.sound list rec begins);
        placed = below_new (length known) (length (list ++ (who, rec) ∷ [])) (length list) indexes longer (omega (arith, length-append list ((who, rec) ∷ []))) s.placed;
      })
  own_appended (Err e) P p0 p list list' rec indexes' parts' amount' vs vk ok err from same =
      let f = from err in
      let t : p.seen ≡ seen = ap (λ (q : PlaceView). q.seen) f.2 ∙ vs in
      let k : p.known ≡ known = ap (λ (q : PlaceView). q.known) f.2 ∙ vk in
      rw (t, k, f.0, f.1, same) s

records_more : (n : ℕ) (xs : List Appended) (x : Appended) → records_in n (xs ++ x ∷ []) ≡ records_in n xs + cond (x.0 == n) 1 0
records_more n [] x = omega arith
records_more n (y ∷ xs) x = omega (arith, records_more n xs x)

count_at_more : (t t' : ℕ) (n who k : ℕ) (b : Bool) → (who == n) ≡ b → (n ≡ who → t' ≡ t + 1) → (n ≢ who → t' ≡ t) → t ≡ k → t' ≡ k + cond b 1 0
count_at_more t t' n who k true is same other at = let e : n ≡ who = grind (arith, nat_tests, is) in omega (arith, same e, at)
count_at_more t t' n who k false is same other at = let e : n ≢ who = grind (arith, nat_tests, is) in omega (arith, other e, at)

-- the ledgers agree with the list after one more record
pub counts_more : (t t' : ℕ → ℕ) (who : ℕ) (xs : List Appended) (x : Appended) → x.0 ≡ who → t' who ≡ t who + 1 → ((n : ℕ) → n ≢ who → t' n ≡ t n) → ((n : ℕ) → 1 ≤ n → n ≤ 16 → t n ≡ records_in n xs)
    → (n : ℕ) → 1 ≤ n → n ≤ 16 → t' n ≡ records_in n (xs ++ x ∷ [])
counts_more t t' who xs x is one others at n low high =
    let here : (n ≡ who) → t' n ≡ t n + 1 = λ e. subst (λ (m : ℕ). t' m ≡ t m + 1) (sym e) one in
    let test : (who == n) ≡ (x.0 == n) = ap (λ m. m == n) (sym is) in
    count_at_more (t n) (t' n) n who (records_in n xs) (x.0 == n) test here (others n) (at n low high) ∙ sym (records_more n xs x)

pub known_grows : (r : Entered) (p q : PlaceView) → (r ≡ Refused → q ≡ p) → (r ≢ Refused → IsPrefix p.known q.seen × (q.known ≡ q.seen)) → IsPrefix p.known q.known
known_grows Refused p q same new = rw (same refl) (prefix_self p.known)
known_grows Done p q same new = let n = new (λ e. cc) in rw n.1 n.0
known_grows Memory p q same new = let n = new (λ e. cc) in rw n.1 n.0

pub seen_grows : (r : Entered) (p q : PlaceView) → IsPrefix p.seen p.known → (r ≡ Refused → q ≡ p) → (r ≢ Refused → IsPrefix p.known q.seen × (q.known ≡ q.seen)) → IsPrefix p.seen q.seen
seen_grows Refused p q s same new = rw (same refl) (prefix_self p.seen)
seen_grows Done p q s same new = prefix_trans p.seen p.known q.seen s (new (λ e. cc)).0
seen_grows Memory p q s same new = prefix_trans p.seen p.known q.seen s (new (λ e. cc)).0

-- what holds at all holds of what was answered
pub if_ok : {T E P : Type 0} (r : Result T E) → P → IfOk r (λ _. P)
if_ok (Ok x) p = p
if_ok (Err e) p = tt

pub if_err : {T E P : Type 0} (Q : E → Type 0) (r : Result T E) → P → IfErr r (λ e. Q e → P)
if_err Q (Ok x) p = tt
if_err Q (Err e) p = λ q. p

-- what was answered, by what was said of it
pub ok_so : {T E : Type 0} {P Q : T → Type 0} (r : Result T E) → ((x : T) → P x → Q x) → IfOk r P → IfOk r Q
ok_so (Ok x) f p = f x p
ok_so (Err e) f p = tt
