-- The versions of a key at or above the floor, in the order of their positions.
use Rattle.std.proofs.Common.{◌≡◌, ℕ, ◌≤◌, leb, eqb, Bool, true, false, cond, ◌&&◌, ◌||◌, List, [], ◌∷◌, bytes_eq, Option, Some, is_some, refl, sym, ap, ◌∙◌, subst, arith}
use Rattle.std.proofs.lemmas.Bool.Decides.{nat_tests}
use Rattle.boki_model.specs.Writes.{Write, Version, is_below, version_value, version_writes, write_at}
use Rattle.lb_base.specs.declared.value.Value.{Value}
use Rattle.boki_model.specs.WriteLaws.{AreUniqueVersions}
use Rattle.obj_store.specs.Ascending.{AllAbove, Ascend, has_at, not_below}
use Rattle.obj_store.specs.Kept.{insert_write, sort_writes}
use Rattle.obj_store.specs.StandsFor.{versions_from}
use Rattle.obj_store.proofs.Positions.{below_trans}
use Rattle.obj_store.proofs.Entries.{same_key}

-- where a write stands among those in order

has_put_in : (c k : ℕ) (w : Write) (ws : List Write) → has_at c k (insert_write w ws) ≡ has_at c k (w ∷ ws)
has_put_in c k w [] = refl
has_put_in c k w (v ∷ vs) = at (is_below v.first v.second w.first w.second) (has_put_in c k w vs)
  where
    swap : (a b r : Bool) → (a || (b || r)) ≡ (b || (a || r))
    swap true true r = refl
    swap true false r = refl
    swap false true r = refl
    swap false false r = refl

    at : (b : Bool) → has_at c k (insert_write w vs) ≡ has_at c k (w ∷ vs) → has_at c k (cond b (v ∷ insert_write w vs) (w ∷ v ∷ vs)) ≡ has_at c k (w ∷ v ∷ vs)
    at true ih = ap (λ b. (eqb c v.first && eqb k v.second) || b) ih ∙ swap (eqb c v.first && eqb k v.second) (eqb c w.first && eqb k w.second) (has_at c k vs)
    at false ih = refl

pub has_in_order : (c k : ℕ) (ws : List Write) → has_at c k (sort_writes ws) ≡ has_at c k ws
has_in_order c k [] = refl
has_in_order c k (w ∷ ws) = has_put_in c k w (sort_writes ws) ∙ ap (λ b. (eqb c w.first && eqb k w.second) || b) (has_in_order c k ws)

above_put_in : (u w : Write) (ws : List Write) → AllAbove u ws → is_below u.first u.second w.first w.second ≡ true → AllAbove u (insert_write w ws)
above_put_in u w [] h g = (g, tt)
above_put_in u w (v ∷ vs) h g = at (is_below v.first v.second w.first w.second) (above_put_in u w vs h.1 g)
  where
    at : (b : Bool) → AllAbove u (insert_write w vs) → AllAbove u (cond b (v ∷ insert_write w vs) (w ∷ v ∷ vs))
    at true ih = (h.0, ih)
    at false ih = (g, h)

above_through : (w v : Write) (vs : List Write) → is_below w.first w.second v.first v.second ≡ true → AllAbove v vs → AllAbove w vs
above_through w v [] h g = tt
above_through w v (u ∷ us) h g = (below_trans w.first w.second v.first v.second u.first u.second h g.0, above_through w v us h g.1)

ascend_put_in : (w : Write) (ws : List Write) → Ascend ws → has_at w.first w.second ws ≡ false → Ascend (insert_write w ws)
ascend_put_in w [] up free = (tt, tt)
ascend_put_in w (v ∷ vs) up free = at (is_below v.first v.second w.first w.second) (eqb w.first v.first && eqb w.second v.second) refl refl free (ascend_put_in w vs up.1)
  where
    at : (b e : Bool) → is_below v.first v.second w.first w.second ≡ b → (eqb w.first v.first && eqb w.second v.second) ≡ e → (e || has_at w.first w.second vs) ≡ false
        → (has_at w.first w.second vs ≡ false → Ascend (insert_write w vs)) → Ascend (cond b (v ∷ insert_write w vs) (w ∷ v ∷ vs))
    at true false h g free ih = (above_put_in v w vs up.0 h, ih free)
    at false false h g free ih =
        let lt : is_below w.first w.second v.first v.second ≡ true = grind (arith, nat_tests) in
        ((lt, above_through w v vs lt up.0), up)
    at true true h g free ih = absurd (let n : ⊥ = cc in n)
    at false true h g free ih = absurd (let n : ⊥ = cc in n)

-- versions as writes

pub has_version_write : (key : List ℕ) (c k : ℕ) (vs : List Version) → has_at c k (version_writes key vs) ≡ is_some (version_value key c k vs)
has_version_write key c k [] = refl
has_version_write key c k (v ∷ vs) = at (bytes_eq key v.key) (eqb c v.cursor) (eqb k v.number) (has_version_write key c k vs)
  where
    at : (x y z : Bool) → has_at c k (version_writes key vs) ≡ is_some (version_value key c k vs)
        → has_at c k (cond x (write_at v.cursor v.number v.value ∷ version_writes key vs) (version_writes key vs)) ≡ is_some (cond (x && eqb c v.cursor && eqb k v.number) (Some v.value) (version_value key c k vs))
    at true y z ih = here (eqb c v.cursor) (eqb k v.number)
      where
        here : (y z : Bool) → ((y && z) || has_at c k (version_writes key vs)) ≡ is_some (cond (true && y && z) (Some v.value) (version_value key c k vs))
        here true true = refl
        here true false = ih
        here false true = ih
        here false false = ih
    at false y z ih = ih

pub version_standing : (f : ℕ) (key : List ℕ) (c k : ℕ) (vs : List Version) → f ≤ c → version_value key c k (versions_from f vs) ≡ version_value key c k vs
version_standing f key c k [] le = refl
version_standing f key c k (v ∷ vs) le = at (leb f v.cursor) refl (version_standing f key c k vs le)
  where
    at : (b : Bool) → leb f v.cursor ≡ b → version_value key c k (versions_from f vs) ≡ version_value key c k vs → version_value key c k (cond b (v ∷ versions_from f vs) (versions_from f vs)) ≡ version_value key c k (v ∷ vs)
    at true e ih = ap (λ (o : Option Value). cond (bytes_eq key v.key && eqb c v.cursor && eqb k v.number) (Some v.value) o) ih
    at false e ih =
        ih ∙ sym (ap (λ b. cond b (Some v.value) (version_value key c k vs)) (off (bytes_eq key v.key) (eqb k v.number) (let n : eqb c v.cursor ≡ false = grind (arith, nat_tests) in n)))
      where
        off : (x z : Bool) → eqb c v.cursor ≡ false → (x && eqb c v.cursor && z) ≡ false
        off true z h = ap (λ b. b && z) h
        off false z h = refl

pub writes_standing : (f : ℕ) (key : List ℕ) (vs : List Version) → version_writes key (versions_from f vs) ≡ not_below f (version_writes key vs)
writes_standing f key [] = refl
writes_standing f key (v ∷ vs) = at (bytes_eq key v.key) (leb f v.cursor) refl refl (writes_standing f key vs)
  where
    at : (x b : Bool) → bytes_eq key v.key ≡ x → leb f v.cursor ≡ b → version_writes key (versions_from f vs) ≡ not_below f (version_writes key vs)
        → version_writes key (cond b (v ∷ versions_from f vs) (versions_from f vs)) ≡ not_below f (cond x (write_at v.cursor v.number v.value ∷ version_writes key vs) (version_writes key vs))
    at true true e g ih =
        ap (λ b. cond b (write_at v.cursor v.number v.value ∷ version_writes key (versions_from f vs)) (version_writes key (versions_from f vs))) e
        ∙ ap (λ (l : List Write). let m : List Write = write_at v.cursor v.number v.value ∷ l in m) ih
        ∙ sym (ap (λ b. cond b (write_at v.cursor v.number v.value ∷ not_below f (version_writes key vs)) (not_below f (version_writes key vs))) g)
    at true false e g ih = ih ∙ sym (ap (λ b. cond b (write_at v.cursor v.number v.value ∷ not_below f (version_writes key vs)) (not_below f (version_writes key vs))) g)
    at false true e g ih = ap (λ b. cond b (write_at v.cursor v.number v.value ∷ version_writes key (versions_from f vs)) (version_writes key (versions_from f vs))) e ∙ ih
    at false false e g ih = ih

pub ascends : (f : ℕ) (key : List ℕ) (vs : List Version) → AreUniqueVersions vs → Ascend (sort_writes (version_writes key (versions_from f vs)))
ascends f key [] h = tt
ascends f key (v ∷ vs) h = at (leb f v.cursor) (bytes_eq key v.key) refl refl (ascends f key vs h.2)
  where
    at : (b x : Bool) → leb f v.cursor ≡ b → bytes_eq key v.key ≡ x → Ascend (sort_writes (version_writes key (versions_from f vs))) → Ascend (sort_writes (version_writes key (cond b (v ∷ versions_from f vs) (versions_from f vs))))
    at false x g e ih = ih
    at true false g e ih = subst (λ b. Ascend (sort_writes (cond b (write_at v.cursor v.number v.value ∷ version_writes key (versions_from f vs)) (version_writes key (versions_from f vs))))) (sym e) ih
    at true true g e ih =
        subst (λ b. Ascend (sort_writes (cond b (write_at v.cursor v.number v.value ∷ version_writes key (versions_from f vs)) (version_writes key (versions_from f vs))))) (sym e)
        (ascend_put_in (write_at v.cursor v.number v.value) (sort_writes (version_writes key (versions_from f vs))) ih
        (has_in_order v.cursor v.number (version_writes key (versions_from f vs)) ∙ has_version_write key v.cursor v.number (versions_from f vs)
        ∙ ap is_some (version_standing f key v.cursor v.number vs (let le : f ≤ v.cursor = grind (arith, nat_tests) in le)
        ∙ ap (λ (q : List ℕ). version_value q v.cursor v.number vs) (same_key key v.key e) ∙ h.1)))
