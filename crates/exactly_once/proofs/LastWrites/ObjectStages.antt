-- The objects at a record, stage by stage: before it, behind its own operation, behind each version there, and behind all.
use Rattle.std.proofs.Common.{◌≡◌, ℕ, suc, ◌<◌, ◌≤◌, true, false, eqb, List, [], ◌∷◌, length, Some, None, sym, ap, ◌∙◌, subst, arith}
use Rattle.std.specs.Prelude.{bytes_eq}
use Rattle.std.specs.List.{AllByRecursion}
use Rattle.boki_types.specs.declared.body.Body.{Body}
use Rattle.boki_model.specs.Live.{Live}
use Rattle.boki_model.specs.Writes.{Store, Version, Write, version_value, logged_write_of, logged_write, last_value_below}
use Rattle.exactly_once.specs.FurtherLaws.Words.{versions_with_cursor, AreConsecutive}
use Rattle.exactly_once.proofs.Log.HistoryTails.{Tail}
use Rattle.exactly_once.proofs.Log.ListElements.{each_weaker}
use Rattle.exactly_once.proofs.Log.LiveRecords.{Under}
use Rattle.exactly_once.proofs.LastWrites.LastBelow.{not_below_zero}
use Rattle.exactly_once.proofs.LastWrites.WritePositions.{At, at_of, numbered_within, numbered_once, found_version, last_behind, last_apart, last_over, last_logged, last_version}

each_version : (P : Version → Type 0) → ((v : Version) → P v) → (vs : List Version) → AllByRecursion P vs
each_version P all [] = tt
each_version P all (v ∷ vs) = (all v, each_version P all vs)

module _ (store : Store) (x : Live Body) (xs : List (Live Body)) (m : ℕ) (is_seq : x.seq ≡ suc m) (under : Under m xs) (numbered : AreConsecutive (versions_with_cursor x.seq store.versions)) where
  abbrev pub here_all : List Version
  here_all = versions_with_cursor x.seq store.versions

  counted : At x.seq (λ v. (0 < v.number) × (v.number ≤ length here_all)) store.versions
  counted = at_of x.seq (λ v. (0 < v.number) × (v.number ≤ length here_all)) store.versions (numbered_within here_all numbered)

  at_weaker : (P Q : Version → Type 0) → ((v : Version) → P v → Q v) → At x.seq P store.versions → At x.seq Q store.versions
  at_weaker P Q step each = each_weaker (λ (v : Version). eqb x.seq v.cursor ≡ true → P v) (λ (v : Version). eqb x.seq v.cursor ≡ true → Q v) (λ v h e. step v (h e)) store.versions each

  -- before the record
  pub stage_before : (key : List ℕ) → last_value_below key x.seq 0 store xs ≡ last_value_below key x.seq 0 store (x ∷ xs)
  stage_before key = sym (last_behind store key x.seq 0 x xs (not_below_zero x.seq 0 x.seq (omega arith)))

  -- the record is no write of the object
  pub stage_other : (key : List ℕ) → logged_write_of key x.seq store.named (logged_write x.holds) ≡ None → last_value_below key x.seq 0 store (x ∷ xs) ≡ last_value_below key x.seq 1 store (x ∷ xs)
  stage_other key none =
      last_apart store key x xs m is_seq under 0
      (at_weaker (λ v. (0 < v.number) × (v.number ≤ length here_all)) (λ v. v.number ≡ 0 → bytes_eq key v.key ≡ false) (λ v h e. absurd (let no_way : ⊥ = omega (arith, h.0, e) in no_way)) counted) (λ e. none)

  -- it is one
  pub stage_write : (key : List ℕ) (w : Write) → logged_write_of key x.seq store.named (logged_write x.holds) ≡ Some w → last_value_below key x.seq 1 store (x ∷ xs) ≡ Some w.value
  stage_write key w is = last_logged store key x xs m is_seq under w is (at_weaker (λ v. (0 < v.number) × (v.number ≤ length here_all)) (λ v. 0 < v.number) (λ v h. h.0) counted)

  -- a version
  module _ (v : Version) (rest : List Version) (t : Tail (v ∷ rest) here_all) (k_is : v.number ≡ suc (length rest)) where
    pub is_found : version_value v.key x.seq v.number store.versions ≡ Some v.value
    is_found = found_version x.seq v rest store.versions t (at_of x.seq (λ u. u.number ≡ v.number → u ≡ v) store.versions (numbered_once v rest here_all t numbered))

    pub stage_version : last_value_below v.key x.seq (suc (suc (length rest))) store (x ∷ xs) ≡ Some v.value
    stage_version =
        ap (λ n. last_value_below v.key x.seq (suc n) store (x ∷ xs)) (sym k_is)
        ∙ last_version store v.key x xs m is_seq under v.number v.value (omega (arith, k_is)) is_found
        (at_weaker (λ u. u.number ≡ v.number → u ≡ v) (λ u. u.number ≡ v.number → u.value ≡ v.value) (λ u h e. ap (λ (u : Version). u.value) (h e)) (at_of x.seq (λ u. u.number ≡ v.number → u ≡ v) store.versions (numbered_once v rest here_all t numbered)))

    pub stage_others : (key : List ℕ) → bytes_eq key v.key ≡ false → last_value_below key x.seq (suc (length rest)) store (x ∷ xs) ≡ last_value_below key x.seq (suc (suc (length rest))) store (x ∷ xs)
    stage_others key other =
        last_apart store key x xs m is_seq under (suc (length rest))
        (at_weaker (λ u. u.number ≡ v.number → u ≡ v) (λ u. u.number ≡ suc (length rest) → bytes_eq key u.key ≡ false) (λ u h e. subst (λ (u : Version). bytes_eq key u.key ≡ false) (sym (h (e ∙ sym k_is))) other) (at_of x.seq (λ u. u.number ≡ v.number → u ≡ v) store.versions (numbered_once v rest here_all t numbered)))
        (λ e. absurd (let no_way : ⊥ = omega (arith, e) in no_way))

  -- behind all of them, up to any bound where nothing stands between
  pub stage_over : (key : List ℕ) (c : ℕ) → x.seq < c → AllByRecursion (λ v. v.cursor < c → v.cursor ≤ x.seq) store.versions → last_value_below key x.seq (suc (length here_all)) store (x ∷ xs) ≡ last_value_below key c 0 store (x ∷ xs)
  stage_over key c lt placed =
      last_over store key x xs m is_seq under (length here_all) c lt (at_weaker (λ v. (0 < v.number) × (v.number ≤ length here_all)) (λ v. v.number ≤ length here_all) (λ v h. h.1) counted) placed

  pub stage_end : (key : List ℕ) → last_value_below key x.seq (suc (length here_all)) store (x ∷ xs) ≡ last_value_below key (suc x.seq) 0 store (x ∷ xs)
  stage_end key = stage_over key (suc x.seq) (omega arith) (each_version (λ v. v.cursor < suc x.seq → v.cursor ≤ x.seq) (λ v h. omega arith) store.versions)

  pub stage_rise : (key : List ℕ) (c : ℕ) → x.seq < c → AllByRecursion (λ v. v.cursor < c → v.cursor ≤ x.seq) store.versions → last_value_below key (suc x.seq) 0 store (x ∷ xs) ≡ last_value_below key c 0 store (x ∷ xs)
  stage_rise key c lt placed = sym (stage_end key) ∙ stage_over key c lt placed
