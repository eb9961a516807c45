-- What the map of open invocations tells.
use Rattle.std.proofs.Common.{◌≡◌, ℕ, ◌<◌, Bool, true, false, cond, ltb, leb, not, List, [], ◌∷◌, ◌++◌, length, Option, Some, None, option_map, slice_get, refl, sym, ap, ◌∙◌, arith}
use Rattle.std.specs.Option.{option_or}
use Rattle.std.proofs.lemmas.Bool.{ltb-true, ltb-false, le-leb, lt-leb}
use Rattle.boki_types.specs.declared.body.Body.{Body}
use Rattle.boki_model.specs.Live.{Live}
use Rattle.boki_model.specs.Modes.{lesser_path, least_open, all_ended}
use Rattle.boki_model.specs.Floor.{first_open}
use Rattle.log_folds.specs.Opens.{OpenInvocation, open_invocations, least_open_below, first_open_seqnum}
use Rattle.log_folds.proofs.Opens.{are_kept}
use Rattle.hm_switch.specs.declared.phase.Phase.{Phase}
use Rattle.hm_switch.specs.declared.phase.Phase.TheVariants.{Open, Ended}
use Rattle.hm_switch.specs.Lives.{first_inits, by_seqnum, since_in, AreLives}
use Rattle.hm_switch.proofs.GoesOn.{says_open}
use Rattle.hm_switch.proofs.Firsts.{inits_fall, first_by_first, least_by_first, none_by_seqnum, from_on}

abbrev pub first_key : List (ℕ × List ℕ) → Option ℕ
first_key es = option_map (λ (e : ℕ × List ℕ). e.0) (slice_get es 0)

key_push : (es : List (ℕ × List ℕ)) (e : ℕ × List ℕ) → first_key (es ++ e ∷ []) ≡ option_or (first_key es) (Some e.0)
key_push [] e = refl
key_push (f ∷ es) e = refl

key_is : (os : List OpenInvocation) → first_key (by_seqnum os) ≡ first_open_seqnum os
key_is [] = refl
key_is (o ∷ os) = key_push (by_seqnum os) (o.seq, o.path) ∙ ap (λ f. option_or f (Some o.seq)) (key_is os)

-- the least path, with the entries that are left
abbrev pub least_with : ℕ → Option (List ℕ) → List (ℕ × List ℕ) → Option (List ℕ)
least_with n least [] = least
least_with n least (e ∷ es) = least_with n (lesser_path (cond (ltb e.0 n) (Some e.1) None) least) es

least_push : (n : ℕ) (least : Option (List ℕ)) (es : List (ℕ × List ℕ)) (e : ℕ × List ℕ) → least_with n least (es ++ e ∷ []) ≡ lesser_path (cond (ltb e.0 n) (Some e.1) None) (least_with n least es)
least_push n least [] e = refl
least_push n least (f ∷ es) e = least_push n (lesser_path (cond (ltb f.0 n) (Some f.1) None) least) es e

least_is : (n : ℕ) (os : List OpenInvocation) → least_with n None (by_seqnum os) ≡ least_open_below n os
least_is n [] = refl
least_is n (o ∷ os) = least_push n None (by_seqnum os) (o.seq, o.path) ∙ ap (lesser_path (cond (ltb o.seq n) (Some o.path) None)) (least_is n os)

pub no_entry : (es : List (ℕ × List ℕ)) → (0 < length es → ⊥) → first_key es ≡ None
no_entry [] none = refl
no_entry (e ∷ es) none = absurd (none (omega arith))

pub from_seqnum : (n seq : ℕ) → leb n seq ≡ from_on n (Some seq)
from_seqnum n seq = at (ltb seq n) refl
  where
    at : (t : Bool) → ltb seq n ≡ t → leb n seq ≡ not t
    at true e = lt-leb n seq (ltb-true seq n e)
    at false e = le-leb n seq (ltb-false seq n e)

module _ (records : List (Live Body)) (phases : List (List ℕ × Phase)) (opened : List (ℕ × List ℕ)) (are : AreLives records phases opened) where
  pub first_is : first_key opened ≡ first_open records records
  first_is = ap first_key are.opened_are ∙ key_is (first_inits (open_invocations records)) ∙ sym (first_by_first (open_invocations records)) ∙ sym (are_kept records).first

  pub ended_is : (n : ℕ) → all_ended n records ≡ from_on n (first_open records records)
  ended_is n =
      (are_kept records).ended n
      ∙ none_by_seqnum n are.end (open_invocations records) (inits_fall are.end records records are.falls)
      ∙ ap (from_on n) (sym (are_kept records).first)

  pub least_path_is : (n : ℕ) → least_with n None opened ≡ least_open n records
  least_path_is n =
      ap (least_with n None) are.opened_are
      ∙ least_is n (first_inits (open_invocations records))
      ∙ sym (least_by_first n are.end (open_invocations records) (inits_fall are.end records records are.falls))
      ∙ sym ((are_kept records).least n)

-- since when a phase says that its invocation is open
pub since_open : (phase : Option Phase) (k : ℕ) → since_in phase ≡ Some k → phase ≡ Some (Open k)
since_open None k is = cc
since_open (Some (Open n)) k is = let f : n ≡ k = cc in ap (λ m. Some (Open m)) f
since_open (Some Ended) k is = cc

pub not_open : (phase : Option Phase) → since_in phase ≡ None → says_open phase ≡ false
not_open None is = refl
not_open (Some (Open n)) is = cc
not_open (Some Ended) is = refl
