-- The second pass over objects, place by place.
use Rattle.std.proofs.Common.{◌≡◌, ℕ, ◌+◌, ◌<◌, Bool, true, false, cond, ◌||◌, List, [], ◌∷◌, ◌++◌, length, take, drop, map, get_or, Option, Some, bytes_eq, refl, sym, ap, ◌∙◌}
use Rattle.std.proofs.lemmas.List.{take_more, map-append}
use Rattle.std.proofs.lemmas.List.Folds.{list_any-append}
use Rattle.std.proofs.lemmas.Slice.Eq.{bytes_eq-Decides}
use Rattle.std.proofs.lemmas.Bool.Decides.{same_from_decides}
use Rattle.lb_base.specs.declared.value.Value.{Value}
use Rattle.boki_types.specs.declared.kind.Kind.{Kind}
use Rattle.boki_types.specs.declared.kind.Kind.TheVariants as kind
use Rattle.script_lang.specs.Names.{is_among}
use Rattle.line_text.proofs.ListLemmas.{drop_at}
use Rattle.plan_lang.specs.Heads.{objects_fault}

-- the names of the objects before a place
abbrev pub names_to : ℕ → List (List ℕ × Value) → List (List ℕ)
names_to i objects = map (λ o. o.0) (take i objects)

pub names_more : (objects : List (List ℕ × Value)) (i : ℕ) (o : List ℕ × Value) → i < length objects → o ≡ get_or objects i o → names_to (i + 1) objects ≡ names_to i objects ++ o.0 ∷ []
names_more objects i o h e =
    ap (map (λ (p : List ℕ × Value). p.0)) (take_more objects i o h)
    ∙ map-append (λ (p : List ℕ × Value). p.0) (take i objects) (get_or objects i o ∷ [])
    ∙ ap (λ (p : List ℕ × Value). names_to i objects ++ p.0 ∷ []) (sym e)

here_by : (t : Bool) (x y : Option (ℕ × Kind)) → t ≡ true → cond t x y ≡ x
here_by t x y e = rw e refl

later_by : (t : Bool) (x y : Option (ℕ × Kind)) → t ≡ false → cond t x y ≡ y
later_by t x y e = rw e refl

pub fault_here : (before : List (List ℕ)) (objects : List (List ℕ × Value)) (lines : List ℕ) (i : ℕ) (o : List ℕ × Value) → i < length objects → o ≡ get_or objects i o → is_among before o.0 ≡ true → objects_fault before (drop i objects) lines i ≡ Some (get_or lines i 0, kind.Name)
fault_here before objects lines i o h e among =
    ap (λ os. objects_fault before os lines i) (drop_at objects i o h e) ∙ here_by _ _ _ among

pub fault_later : (objects : List (List ℕ × Value)) (lines : List ℕ) (i : ℕ) (o : List ℕ × Value) → i < length objects → o ≡ get_or objects i o → is_among (names_to i objects) o.0 ≡ false → objects_fault (names_to i objects) (drop i objects) lines i ≡ objects_fault (names_to (i + 1) objects) (drop (i + 1) objects) lines (i + 1)
fault_later objects lines i o h e among =
    ap (λ os. objects_fault (names_to i objects) os lines i) (drop_at objects i o h e)
    ∙ later_by _ _ _ among
    ∙ ap (λ names. objects_fault names (drop (i + 1) objects) lines (i + 1)) (sym (names_more objects i o h e))

pub flip : (x y : List ℕ) → bytes_eq x y ≡ bytes_eq y x
flip x y =
    same_from_decides (bytes_eq x y) (bytes_eq y x) (bytes_eq-Decides x y) (λ e. sym ((bytes_eq-Decides y x).0 e), λ e. (bytes_eq-Decides y x).1 (sym e))

either : (t d : Bool) → cond t true d ≡ (d || (t || false))
either true true = refl
either true false = refl
either false true = refl
either false false = refl

-- one more name
pub among_more : (before : List (List ℕ)) (k q : List ℕ) (c d : Bool) → c ≡ cond (bytes_eq k q) true d → d ≡ is_among before q → c ≡ is_among (before ++ k ∷ []) q
among_more before k q c d e h =
    e
    ∙ either (bytes_eq k q) d
    ∙ ap (λ t. d || (t || false)) (flip k q)
    ∙ ap (λ b. b || (bytes_eq q k || false)) h
    ∙ sym (list_any-append (bytes_eq q) before (k ∷ []))
