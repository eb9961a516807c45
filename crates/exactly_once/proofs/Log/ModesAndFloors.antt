-- Modes exclude each other, and floors pass only what has ended.
use Rattle.std.proofs.Common.{◌≡◌, ◌⊎◌, inl, inr, ⊎_elim, ℕ, ◌<◌, ◌≤◌, Bool, true, false, cond, leb, ◌&&◌, not, List, [], ◌∷◌, length, Option, Some, None, refl, sym, ap, ◌∙◌, subst, arith}
use Rattle.std.specs.Prelude.{is_some, max, IsTrue}
use Rattle.std.proofs.lemmas.Bool.{lt-ltb, leb-true}
use Rattle.lb_base.specs.declared.value.Mode.{Mode}
use Rattle.lb_base.specs.declared.value.Mode.TheVariants.{R, W, T}
use Rattle.boki_types.specs.declared.body.Body.{Body}
use Rattle.boki_types.specs.declared.body.Body.TheVariants as b
use Rattle.boki_model.specs.Live.{Live, live}
use Rattle.std.specs.Option.{option_or}
use Rattle.boki_model.specs.Maps.{before}
use Rattle.boki_model.specs.Modes.{Switch, Modes, same_mode, init_path, finish_of, result_of, open_path, lesser_path, least_open_in, least_open, all_ended, begin_switch, end_switch, apply_to_modes, modes, effective_mode, mode_after}
use Rattle.boki_model.specs.Floor.{counted_trim, floor}
use Rattle.exactly_once.specs.FurtherLaws.ModesAndFloors.{IsEnded, AreExclusive, ModesExclude, FloorsPass}
use Rattle.exactly_once.proofs.Log.HistoryTails.{Tail, here, there, shorter}
use Rattle.exactly_once.proofs.Log.LiveRecords.{Under, under_tail, live_under, IsAt, at_some, tail_below, tails_by_seq}

none_is : {X : Type 0} (o : Option X) → is_some o ≡ false → o ≡ None
none_is None e = refl
none_is (Some x) e = cc

-- a path that has ended has ended later too
or_else_some : {X : Type 0} (o other : Option X) → IsTrue (is_some o) → IsTrue (is_some (option_or o other))
or_else_some None other is = cc
or_else_some (Some r) other is = refl

pub ended_later : (p : List ℕ) (xs ys : List (Live Body)) → Tail xs ys → IsEnded p xs → IsEnded p ys
ended_later p xs ys here ended = ended
ended_later p xs (y ∷ ys) (there t) ended = or_else_some (result_of p ys) (finish_of p y.holds) (ended_later p xs ys t ended)

-- no path is open where the least open one is none
lesser_none : (o q : Option (List ℕ)) → lesser_path o q ≡ None → (o ≡ None) × (q ≡ None)
lesser_none None q e = (refl, e)
lesser_none (Some p) None e = cc
lesser_none (Some p) (Some q) e = at (before q p) e
  where
    at : (b : Bool) → cond b (Some q) (Some p) ≡ None → (Some p ≡ None) × (Some q ≡ None)
    at true e = cc
    at false e = cc

not_open : (begun : ℕ) (records : List (Live Body)) (seq : ℕ) (p : List ℕ) → seq < begun → open_path begun records seq (Some p) ≡ None → IsEnded p records
not_open begun records seq p lt none = at (is_some (result_of p records)) refl (rw (lt-ltb seq begun lt) at none)
  where
    at : (b : Bool) → is_some (result_of p records) ≡ b → cond (true && not b) (Some p) None ≡ None → is_some (result_of p records) ≡ true
    at true e none = e
    at false e none = cc

none_open : (begun : ℕ) (records : List (Live Body)) (x : Live Body) (behind ys : List (Live Body)) (p : List ℕ) → Tail (x ∷ behind) ys → x.holds ≡ b.Init p → x.seq < begun → least_open_in begun records ys ≡ None → IsEnded p records
none_open begun records x behind ys p here holds lt none =
    not_open begun records x.seq p lt (ap (λ body. open_path begun records x.seq (init_path body)) (sym holds) ∙ (lesser_none _ _ none).0)
none_open begun records x behind (y ∷ ys) p (there t) holds lt none = none_open begun records x behind ys p t holds lt (lesser_none (open_path begun records y.seq (init_path y.holds)) (least_open_in begun records ys) none).1

pub all_ended_is : (begun : ℕ) (records : List (Live Body)) (x : Live Body) (behind : List (Live Body)) (p : List ℕ) → Tail (x ∷ behind) records → x.holds ≡ b.Init p → x.seq < begun → all_ended begun records ≡ true → IsEnded p records
all_ended_is begun records x behind p t holds lt all = none_open begun records x behind records p t holds lt (none_is (least_open begun records) (at (is_some (least_open begun records)) all))
  where
    at : (b : Bool) → not b ≡ true → b ≡ false
    at true e = cc
    at false e = refl

-- Of an invocation that began at this seqnum with a mode other than T: while it runs its mode is the current one, and a switch
-- that pends began behind its Init.
abbrev BeganBefore : Option Switch → ℕ → Type 0
BeganBefore None seq = Unit {0}
BeganBefore (Some s) seq = seq < s.begun

record IsCalm (m : Modes) (mode : Mode) (seq : ℕ) : Type 0 where
  pub current : m.current ≡ mode
  pub before_switch : BeganBefore m.pending seq

module _ (first : Mode) (p : List ℕ) (mode : Mode) (x : Live Body) (behind : List (Live Body)) (holds : x.holds ≡ b.Init p) where
  abbrev Holds : List (Live Body) → Modes → Type 0
  Holds xs m = IsEnded p xs ⊎ IsCalm m mode x.seq

  begins_calm : (target : Mode) (seq : ℕ) (m : Modes) (pending : Option Switch) → m.pending ≡ pending → x.seq < seq → IsCalm m mode x.seq → IsCalm (begin_switch target seq m pending) mode x.seq
  begins_calm target seq m (Some s) is lt calm = calm
  begins_calm target seq m None is lt calm =
      elim (same_mode target m.current) as (λ b. IsCalm (cond b m (record m { pending = Some (record { target = target; begun = seq }) })) mode x.seq)
      [ true ↦ calm | false ↦ record { current = calm.current; before_switch = lt } ]

  ends_calm : (xs : List (Live Body)) (m : Modes) (pending : Option Switch) → m.pending ≡ pending → Tail (x ∷ behind) xs → IsCalm m mode x.seq → Holds xs (end_switch xs m pending)
  ends_calm xs m None is t calm = inr calm
  ends_calm xs m (Some s) is t calm = at (all_ended s.begun xs) refl
    where
      at : (b : Bool) → all_ended s.begun xs ≡ b → Holds xs (cond b (record { current = s.target; pending = None }) m)
      at true all = inl (all_ended_is s.begun xs x behind p t holds (subst (λ q. BeganBefore q x.seq) is calm.before_switch) all)
      at false all = inr calm

  switched_calm : (body : Body) (seq : ℕ) (xs : List (Live Body)) (m : Modes) → x.seq < seq → Tail (x ∷ behind) xs → IsCalm m mode x.seq → Holds xs (apply_to_modes body seq xs m)
  switched_calm (b.SwitchBegin target) seq xs m lt t calm = inr (begins_calm target seq m m.pending refl lt calm)
  switched_calm b.SwitchEnd seq xs m lt t calm = ends_calm xs m m.pending refl t calm
  switched_calm _ seq xs m lt t calm = inr calm

  -- at the Init itself
  starts_calm : (m : Modes) (pending : Option Switch) → m.pending ≡ pending → effective_mode pending m.current ≡ mode → (mode ≡ T → ⊥) → IsCalm m mode x.seq
  starts_calm m None is mode_is not_T = record { current = mode_is; before_switch = subst (λ q. BeganBefore q x.seq) (sym is) tt }
  starts_calm m (Some s) is mode_is not_T = absurd (not_T (sym mode_is))

  init_calm : (m : Modes) → effective_mode m.pending m.current ≡ mode → (mode ≡ T → ⊥) → IsCalm (apply_to_modes x.holds x.seq behind m) mode x.seq
  init_calm m mode_is not_T = subst (λ body. IsCalm (apply_to_modes body x.seq behind m) mode x.seq) (sym holds) (starts_calm m m.pending refl mode_is not_T)

  stays_calm : (n : ℕ) (ys : List (Live Body)) → Under n ys → mode_after first behind ≡ mode → (mode ≡ T → ⊥) → Tail (x ∷ behind) ys → Holds ys (modes first ys)
  stays_calm n ys under mode_is not_T here = inr (init_calm (modes first behind) mode_is not_T)
  stays_calm n (y ∷ ys) under mode_is not_T (there t) =
      ⊎_elim (λ ended. inl (ended_later p ys (y ∷ ys) (there here) ended))
      (λ calm. ⊎_elim (λ ended. inl (ended_later p ys (y ∷ ys) (there here) ended)) (λ calm. inr calm)
      (switched_calm y.holds y.seq ys (modes first ys) (tail_below n x y behind ys under t) t calm))
      (stays_calm under.0 ys under.3 mode_is not_T t)

apart_not_T : (m n : Mode) → AreExclusive m n → m ≡ T → ⊥
apart_not_T R n apart is = cc
apart_not_T W n apart is = cc
apart_not_T T R apart is = apart
apart_not_T T W apart is = apart
apart_not_T T T apart is = apart

apart_same : (m n : Mode) → AreExclusive m n → n ≡ m → ⊥
apart_same m n apart is = at m (subst (AreExclusive m) is apart)
  where
    at : (m : Mode) → AreExclusive m m → ⊥
    at R apart = apart
    at W apart = apart
    at T apart = apart

apart_other_T : (m n : Mode) → AreExclusive m n → n ≡ T → ⊥
apart_other_T m n apart is = at m (subst (AreExclusive m) is apart)
  where
    at : (m : Mode) → AreExclusive m T → ⊥
    at R apart = apart
    at W apart = apart
    at T apart = apart

-- where the first invocation still runs, the other has its mode or T
calm_apart : (m n : Mode) (seq : ℕ) (ms : Modes) (pending : Option Switch) → ms.pending ≡ pending → IsCalm ms m seq → AreExclusive m n → effective_mode pending ms.current ≡ n → ⊥
calm_apart m n seq ms None is calm apart mode_is = apart_same m n apart (sym mode_is ∙ calm.current)
calm_apart m n seq ms (Some s) is calm apart mode_is = apart_other_T m n apart (sym mode_is)

-- of two Inits, the one that lies behind the other is of an invocation that ended before
pub tails_exclude : (first : Mode) (p : List ℕ) (m n : Mode) (x : Live Body) (behind other : List (Live Body)) (k : ℕ) → x.holds ≡ b.Init p → Under k other → mode_after first behind ≡ m → mode_after first other ≡ n → AreExclusive m n → Tail (x ∷ behind) other → IsEnded p other
tails_exclude first p m n x behind other k holds under mode_is mode_other apart t =
    ⊎_elim (λ ended. ended) (λ calm. absurd (calm_apart m n x.seq (modes first other) (modes first other).pending refl calm apart mode_other))
    (stays_calm first p m x behind holds k other under mode_is (apart_not_T m n apart) t)

pub modes_exclude : ModesExclude
modes_exclude first log p q i j m n one two apart lt =
    let under = live_under log in
    let init : IsAt (length log) i (live log) (b.Init p) = at_some (length log) i (live log) (b.Init p) under one.init in
    let other : IsAt (length log) j (live log) (b.Init q) = at_some (length log) j (live log) (b.Init q) under two.init in
    let t = tails_by_seq init.record_there other.record_there init.behind other.behind (length log) (live log) under init.tail other.tail (omega (arith, lt, init.seq_is, other.seq_is)) in
    subst (IsEnded p) (sym other.below)
    (tails_exclude first p m n init.record_there init.behind other.behind (length log) init.holds_is (under_tail other.behind (length log) (live log) under (shorter other.tail))
    (ap (mode_after first) (sym init.below) ∙ one.mode_is) (ap (mode_after first) (sym other.below) ∙ two.mode_is) apart t)

-- the floor is at most the newest seqnum
counted_within : (body : Body) (seq : ℕ) (xs : List (Live Body)) → counted_trim body seq xs ≤ seq
counted_within (b.Trim w) seq xs = at (leb w seq) (all_ended w xs) refl
  where
    at : (c d : Bool) → leb w seq ≡ c → cond (c && d) w 0 ≤ seq
    at true true e = leb-true w seq e
    at true false e = omega arith
    at false d e = omega arith
counted_within _ seq xs = omega arith

floor_within : (n : ℕ) (xs : List (Live Body)) → Under n xs → floor xs ≤ n
floor_within n [] under = omega arith
floor_within n (x ∷ xs) under = max_within (counted_trim x.holds x.seq xs) (floor xs) (omega (arith, counted_within x.holds x.seq xs, under.1, under.2)) (omega (arith, floor_within under.0 xs under.3, under.2))
  where
    max_within : (a b : ℕ) → a ≤ n → b ≤ n → max a b ≤ n
    max_within a b le lf = omega arith

below_max : (s a b : ℕ) → s < max a b → (s < a) ⊎ (s < b)
below_max s a b lt = grind arith

-- a trim counts only where what is below it has ended
below_counted : (body : Body) (seq : ℕ) (x : Live Body) (behind xs : List (Live Body)) (p : List ℕ) → Tail (x ∷ behind) xs → x.holds ≡ b.Init p → x.seq < counted_trim body seq xs → IsEnded p xs
below_counted (b.Trim w) seq x behind xs p t holds lt = at (leb w seq) (all_ended w xs) refl lt
  where
    at : (c d : Bool) → all_ended w xs ≡ d → x.seq < cond (c && d) w 0 → IsEnded p xs
    at true true all lt = all_ended_is w xs x behind p t holds lt all
    at true false all lt = absurd (omega arith)
    at false d all lt = absurd (omega arith)
below_counted _ seq x behind xs p t holds lt = absurd (omega arith)

pub below_floor : (x : Live Body) (behind : List (Live Body)) (n : ℕ) (xs : List (Live Body)) (p : List ℕ) → Under n xs → Tail (x ∷ behind) xs → x.holds ≡ b.Init p → x.seq < floor xs → IsEnded p xs
below_floor x behind n xs p under here holds lt =
    let none : counted_trim x.holds x.seq behind ≡ 0 = ap (λ body. counted_trim body x.seq behind) holds in
    absurd (let h : ⊥ = omega (arith, lt, none, floor_within under.0 behind under.3, under.1) in h)
below_floor x behind n (y ∷ xs) p under (there t) holds lt =
    ended_later p xs (y ∷ xs) (there here)
    (⊎_elim (λ lt. below_counted y.holds y.seq x behind xs p t holds lt) (λ lt. below_floor x behind under.0 xs p under.3 t holds lt) (below_max x.seq (counted_trim y.holds y.seq xs) (floor xs) lt))

pub floors_pass : FloorsPass
floors_pass log p i init lt =
    let at : IsAt (length log) i (live log) (b.Init p) = at_some (length log) i (live log) (b.Init p) (live_under log) init in
    below_floor at.record_there at.behind (length log) (live log) p (live_under log) at.tail at.holds_is (omega (arith, lt, at.seq_is))
