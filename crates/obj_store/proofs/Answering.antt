-- The answers of reads, by what the store is told.
use Rattle.std.proofs.Common.{◌≡◌, ℕ, zero, suc, ◌-◌, ◌≤◌, ltb, eqb, false, cond, List, [], ◌∷◌, Option, Some, None, option_map, refl, sym, ap, ◌∙◌, arith}
use Rattle.std.proofs.lemmas.Bool.Decides.{nat_tests}
use Rattle.std.specs.Option.{MatchOption}
use Rattle.boki_types.specs.declared.body.Body.{Body}
use Rattle.boki_types.specs.declared.store.Fenced.TheVariants as f
use Rattle.boki_model.specs.Live.{Live}
use Rattle.boki_model.specs.Writes.{Store, Write, last_value_below, last_write_below, later_write, is_below, writes_of, fenced_answer, read_free, read_fenced}
use Rattle.obj_store.specs.declared.answers.Logged.{Logged}
use Rattle.obj_store.specs.Answers.{IsLastLogged, logged_parts}
use Rattle.obj_store.specs.Kept.{StoreState, object_in}
use Rattle.obj_store.specs.StandsFor.{StandsFor, IsCovered}
use Rattle.obj_store.specs.Steps.{value_upto, value_before}
use Rattle.obj_store.proofs.Reading.{read_is}

module _ (kept : StoreState) (m : Store) (records : List (Live Body)) (stands : StandsFor kept m records) (key : List ℕ) where
  covered_of : (l : Option Logged) → MatchOption l (Unit {0}) (λ l. IsCovered key kept (logged_parts l)) → MatchOption (option_map logged_parts l) (Unit {0}) (IsCovered key kept)
  covered_of None h = h
  covered_of (Some l) h = h

  pub read_free_is : (cursor : ℕ) (l : Option Logged) → m.floor ≤ cursor → IsLastLogged key (suc cursor) kept records l
      → fenced_answer (value_upto kept.floor cursor (object_in key kept.objects) kept.named (option_map logged_parts l)) ≡ read_free key cursor m records
  read_free_is cursor l le t =
      ap fenced_answer (read_is kept m records stands key cursor (option_map logged_parts l) (let h : m.floor ≤ suc cursor = omega arith in h) t.last (covered_of l t.covered))
      ∙ sym (ap (λ b. cond b f.Gone (fenced_answer (last_value_below key (suc cursor) 0 m records))) (let h : ltb cursor m.floor ≡ false = grind (arith, nat_tests) in h))

  nothing_below : (ws : List Write) → last_write_below 0 0 ws ≡ None
  nothing_below [] = refl
  nothing_below (w ∷ ws) = ap (λ b. cond b (later_write w (last_write_below 0 0 ws)) (last_write_below 0 0 ws)) (let h : is_below w.first w.second 0 0 ≡ false = grind (arith, nat_tests) in h) ∙ nothing_below ws

  pub read_fenced_is : (at : ℕ) (l : Option Logged) → m.floor ≤ at → IsLastLogged key at kept records l
      → value_before kept.floor at (object_in key kept.objects) kept.named (option_map logged_parts l) ≡ read_fenced key at m records
  read_fenced_is zero l le t =
      sym (ap fenced_answer (ap (option_map (λ (w : Write). w.value)) (nothing_below (writes_of key m records))))
      ∙ sym (ap (λ b. cond b f.Gone (fenced_answer (last_value_below key 0 0 m records))) (let h : ltb 0 m.floor ≡ false = grind (arith, nat_tests) in h))
  read_fenced_is (suc n) l le t =
      ap (λ b. cond b f.Missing (fenced_answer (value_upto kept.floor (suc n - 1) (object_in key kept.objects) kept.named (option_map logged_parts l)))) (let h : eqb (suc n) 0 ≡ false = grind (arith, nat_tests) in h)
      ∙ ap (λ (k : ℕ). fenced_answer (value_upto kept.floor k (object_in key kept.objects) kept.named (option_map logged_parts l))) (let h : suc n - 1 ≡ n = omega arith in h)
      ∙ ap fenced_answer (read_is kept m records stands key n (option_map logged_parts l) le t.last (covered_of l t.covered))
      ∙ sym (ap (λ b. cond b f.Gone (fenced_answer (last_value_below key (suc n) 0 m records))) (let h : ltb (suc n) m.floor ≡ false = grind (arith, nat_tests) in h))
