-- What lies ahead of a record, and of the one before it. The first lemmas are those of `exactly_once`, which has them for itself.
use Rattle.std.proofs.Common.{◌≡◌, ⊎_elim, ℕ, suc, ◌<◌, true, false, eqb, List, ◌∷◌, length, Option, Some, None, refl, sym, ap, ◌∙◌, subst, arith}
use Rattle.std.specs.Prelude.{bytes_eq}
use Rattle.std.specs.List.{AllByRecursion}
use Rattle.std.proofs.lemmas.Bool.{eqb-true, or_cases}
use Rattle.boki_types.specs.declared.body.Body.{Body}
use Rattle.boki_types.specs.declared.plan.Setup.{Setup}
use Rattle.boki_types.specs.declared.program.Function.{Function}
use Rattle.boki_model.specs.Live.{Live, is_live}
use Rattle.boki_model.specs.Bodies.{step_of}
use Rattle.boki_model.specs.Maps.{get}
use Rattle.boki_model.specs.Writes.{Store, Version}
use Rattle.boki_model.proofs.KeyMaps.{get-put_same}
use Rattle.boki_machine.specs.Decided.{InvocationState}
use Rattle.boki_machine.specs.Turns.{add_next_index}
use Rattle.exactly_once.specs.Induction.SoundLogs.{Reaches, free_operations_to, AllMayFollow}
use Rattle.exactly_once.proofs.Log.LiveRecords.{Under}
use Rattle.exactly_once.proofs.Log.MapChanges.{get_other}
use Rattle.exactly_once.proofs.Log.ListElements.{each_weaker}
use Rattle.exactly_once.proofs.Invocations.NextRecord.{stands, Does, does, apart, began, operates, ends, cursor_within}
use Rattle.exactly_once.proofs.Invocations.FreeAnswers.{more_older}
use Rattle.exactly_once.proofs.Simulation.ExpectedState.{Next, Valid}

-- in the map of what lies ahead
pub ahead_apart : (q : List ℕ) (ahead : List (List ℕ × ℕ)) (o : Option (List ℕ × ℕ)) → ((s : List ℕ × ℕ) → o ≡ Some s → bytes_eq q s.0 ≡ false) → get q (add_next_index o ahead) ≡ get q ahead
ahead_apart q ahead None other = refl
ahead_apart q ahead (Some s) other = get_other q s.0 s.1 ahead (other s refl)

pub ahead_own : (q : List ℕ) (i : ℕ) (ahead : List (List ℕ × ℕ)) (o : Option (List ℕ × ℕ)) → o ≡ Some (q, i) → get q (add_next_index o ahead) ≡ Some i
ahead_own q i ahead o is = ap (λ o. get q (add_next_index o ahead)) is ∙ get-put_same q i ahead

module _ (setup : Setup) (fs : List Function) (store : Store) where
  reaches_before : (x : Live Body) (xs : List (Live Body)) (q : List ℕ) (st : InvocationState) (index : ℕ) → st.cursor < x.seq → Reaches fs store (x ∷ xs) q st index → Reaches fs store xs q st index
  reaches_before x xs q st index lt reaches = record {
    begun = reaches.begun;
    unended = reaches.unended;
    decided = ap (λ l. suc (length l)) (sym (more_older store x xs fs q st (free_operations_to index st) lt)) ∙ reaches.decided;
    all_versions = reaches.all_versions;
  }

  next_before : (x : Live Body) (xs : List (Live Body)) (q : List ℕ) (st : InvocationState) (a : Option ℕ) → st.cursor < x.seq → Next setup fs store a (x ∷ xs) q st → Next setup fs store a xs q st
  next_before x xs q st None lt next = tt
  next_before x xs q st (Some index) lt next = (λ begun. reaches_before x xs q st index lt (next.0 begun), next.1)

  pub valid_before : (x : Live Body) (xs : List (Live Body)) (m : ℕ) → x.seq ≡ suc m → Under m xs → AllMayFollow setup fs store (x ∷ xs) → (ahead : List (List ℕ × ℕ)) → Valid setup fs store ahead (x ∷ xs) → Valid setup fs store (add_next_index (step_of x.holds) ahead) xs
  valid_before x xs m is_seq under fit ahead valid q = at (stands setup fs store q (x ∷ xs)) (valid q) (does setup fs store x xs q fit.0)
    where
      older : (stands setup fs store q xs).cursor < x.seq
      older = let h = cursor_within setup fs store m xs q under fit.2 in omega (arith, h, is_seq)

      own : (i : ℕ) → step_of x.holds ≡ Some (q, i) → Next setup fs store (Some i) xs q (stands setup fs store q xs) → Next setup fs store (get q (add_next_index (step_of x.holds) ahead)) xs q (stands setup fs store q xs)
      own i step next = subst (λ a. Next setup fs store a xs q (stands setup fs store q xs)) (sym (ahead_own q i ahead (step_of x.holds) step)) next

      running : (i : ℕ) → Reaches fs store xs q (stands setup fs store q xs) i → Next setup fs store (Some i) xs q (stands setup fs store q xs)
      running i reaches = (λ begun. reaches, λ new. let begun = reaches.begun in let no_way : true ≡ false = sym begun ∙ new in cc)

      at : (next : InvocationState) → Next setup fs store (get q ahead) (x ∷ xs) q next → Does setup fs store x.seq x.holds xs q next → Next setup fs store (get q (add_next_index (step_of x.holds) ahead)) xs q (stands setup fs store q xs)
      at next will (apart other finish is) =
          subst (λ a. Next setup fs store a xs q (stands setup fs store q xs)) (sym (ahead_apart q ahead (step_of x.holds) other))
          (next_before x xs q (stands setup fs store q xs) (get q ahead) older (subst (Next setup fs store (get q ahead) (x ∷ xs) q) is will))
      at next will (began body may is) =
          own 1 (ap step_of body) (λ begun. absurd (let new = may.new in let no_way : true ≡ false = sym begun ∙ new in let h : ⊥ = cc in h), λ new. refl)
      at next will (operates i step finish reaches is) = own i step (running i reaches)
      at next will (ends i outcome body asks is) = own i (ap step_of body) (running i asks.reaches)

-- versions below the bound stand at live records
abbrev pub Placed : Store → ℕ → List (Live Body) → Type 0
Placed store n xs = AllByRecursion (λ v. v.cursor < suc n → is_live v.cursor xs ≡ true) store.versions

pub placed_before : (store : Store) (n : ℕ) (x : Live Body) (xs : List (Live Body)) → (under : Under n (x ∷ xs)) → Placed store n (x ∷ xs) → Placed store under.0 xs
placed_before store n x xs under placed =
    each_weaker (λ (v : Version). v.cursor < suc n → is_live v.cursor (x ∷ xs) ≡ true) (λ (v : Version). v.cursor < suc under.0 → is_live v.cursor xs ≡ true)
    (λ v h lt. ⊎_elim (λ here. absurd (let e = eqb-true v.cursor x.seq here in let no_way : ⊥ = omega (arith, e, lt, under.1) in no_way)) (λ there. there) (or_cases (eqb v.cursor x.seq) (is_live v.cursor xs) (h (omega (arith, lt, under.2))))) store.versions placed
