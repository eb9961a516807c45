-- What a record does, by what it says.
use Rattle.std.proofs.Common.{◌≡◌, ℕ, max, Bool, true, false, cond, leb, ◌&&◌, ◌||◌, List, ◌∷◌, Option, Some, None, refl, ap, ◌∙◌}
use Rattle.std.specs.Prelude.{bytes_eq, is_some}
use Rattle.std.specs.Option.{option_or}
use Rattle.lb_base.specs.declared.value.Mode.{Mode}
use Rattle.lb_base.specs.declared.value.Outcome.{Outcome}
use Rattle.boki_types.specs.declared.body.Body.{Body}
use Rattle.boki_types.specs.declared.body.Body.TheVariants as b
use Rattle.boki_model.specs.Live.{Live}
use Rattle.boki_model.specs.Modes.{Modes, result_of, finish_of, begin_switch, modes}
use Rattle.boki_model.specs.Floor.{floor}
use Rattle.log_folds.specs.Opens.{OpenInvocation, open_invocations, open_after, none_open_below, ends_switch_by, modes_by_open, counted_by_open}
use Rattle.log_folds.proofs.Opens.{are_kept}
use Rattle.hm_switch.specs.declared.marks.Mark.{Mark}
use Rattle.hm_switch.specs.declared.marks.Mark.TheVariants as m
use Rattle.hm_switch.specs.Marks.{mark_of}
use Rattle.hm_switch.proofs.Opened.{others}

abbrev pub open_by : Mark → ℕ → List (Live Body) → List OpenInvocation → List OpenInvocation
open_by (m.Init p) seq records os = cond (is_some (result_of p records)) os (record { seq = seq; path = p } ∷ os)
open_by (m.Finish p) seq records os = others p os
open_by _ seq records os = os

abbrev pub ended_by : List ℕ → Mark → Bool
ended_by q (m.Finish p) = bytes_eq q p
ended_by q _ = false

abbrev pub modes_by : Mark → ℕ → List OpenInvocation → Modes → Modes
modes_by (m.SwitchBegin target) seq os now = begin_switch target seq now now.pending
modes_by m.SwitchEnd seq os now = ends_switch_by os now now.pending
modes_by _ seq os now = now

abbrev pub counted_by : Mark → ℕ → List OpenInvocation → ℕ
counted_by (m.Trim w) seq os = cond (leb w seq && none_open_below w os) w 0
counted_by _ seq os = 0

is_there : (t : Bool) (o : Outcome) → is_some (cond t (Some o) None) ≡ t
is_there true o = refl
is_there false o = refl

ended_is : (q : List ℕ) (body : Body) → is_some (finish_of q body) ≡ ended_by q (mark_of body)
ended_is q (b.Finish p i o) = is_there (bytes_eq q p) o
ended_is q _ = refl

opened_is : (body : Body) (seq : ℕ) (records : List (Live Body)) (os : List OpenInvocation) → open_after seq records body os ≡ open_by (mark_of body) seq records os
opened_is (b.Init p) seq records os = refl
opened_is (b.Finish p i o) seq records os = refl
opened_is _ seq records os = refl

switched_is : (body : Body) (seq : ℕ) (os : List OpenInvocation) (now : Modes) → modes_by_open body seq os now ≡ modes_by (mark_of body) seq os now
switched_is (b.SwitchBegin target) seq os now = refl
switched_is b.SwitchEnd seq os now = refl
switched_is _ seq os now = refl

counted_is : (body : Body) (seq : ℕ) (os : List OpenInvocation) → counted_by_open body seq os ≡ counted_by (mark_of body) seq os
counted_is (b.Trim w) seq os = refl
counted_is _ seq os = refl

module _ (x : Live Body) (records : List (Live Body)) where
  pub opens_by : (mark : Mark) → mark_of x.holds ≡ mark → open_invocations (x ∷ records) ≡ open_by mark x.seq records (open_invocations records)
  opens_by mark is = (are_kept records).more_open x ∙ opened_is x.holds x.seq records (open_invocations records) ∙ ap (λ k. open_by k x.seq records (open_invocations records)) is

  pub ends_by : (mark : Mark) → mark_of x.holds ≡ mark → (q : List ℕ) → is_some (result_of q (x ∷ records)) ≡ (is_some (result_of q records) || ended_by q mark)
  ends_by mark is q = at (result_of q records)
    where
      at : (r : Option Outcome) → is_some (option_or r (finish_of q x.holds)) ≡ (is_some r || ended_by q mark)
      at (Some o) = refl
      at None = ended_is q x.holds ∙ ap (ended_by q) is

  pub switches_by : (first : Mode) (mark : Mark) → mark_of x.holds ≡ mark → modes first (x ∷ records) ≡ modes_by mark x.seq (open_invocations records) (modes first records)
  switches_by first mark is =
      (are_kept records).more_modes first x ∙ switched_is x.holds x.seq (open_invocations records) (modes first records) ∙ ap (λ k. modes_by k x.seq (open_invocations records) (modes first records)) is

  pub counts_by : (mark : Mark) → mark_of x.holds ≡ mark → floor (x ∷ records) ≡ max (counted_by mark x.seq (open_invocations records)) (floor records)
  counts_by mark is =
      (are_kept records).more_floor x ∙ ap (λ n. max n (floor records)) (counted_is x.holds x.seq (open_invocations records) ∙ ap (λ k. counted_by k x.seq (open_invocations records)) is)
