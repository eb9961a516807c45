-- What a record says to the modes, to the floor, and to which invocations are open.
use Rattle.std.specs.Prelude.{◌≡◌, ℕ, ◌<◌, Bool, ◌||◌, List}
use Rattle.std.specs.Option.{option_map_or}
use Rattle.lb_base.specs.declared.value.Record.{Record}
use Rattle.lb_base.specs.declared.value.Tag.{Tag}
use Rattle.boki_types.specs.declared.body.Body.{Body}
use Rattle.boki_types.specs.declared.body.Body.TheVariants as b
use Rattle.boki_model.specs.Live.{Live, has_tag}
use Rattle.boki_model.specs.LogLaws.{FallBelow}
use Rattle.boki_model.specs.Order.{at_seq}
use Rattle.boki_model.specs.Bodies.{life_tag}
use Rattle.book_api.specs.Books.{BookState, ordered}
use Rattle.step_log.specs.Sound.{body_of}
use Rattle.log_folds.specs.Own.{switch_tag, trim_tag}
use Rattle.hm_switch.specs.declared.marks.Mark.{Mark}
use Rattle.hm_switch.specs.declared.marks.Mark.TheVariants as m

abbrev pub mark_of : Body → Mark
mark_of (b.Init path) = m.Init path
mark_of (b.Finish path i outcome) = m.Finish path
mark_of (b.SwitchBegin target) = m.SwitchBegin target
mark_of b.SwitchEnd = m.SwitchEnd
mark_of (b.Trim w) = m.Trim w
mark_of _ = m.Other

-- only records with one of these tags say anything
abbrev pub is_marked : List Tag → Bool
is_marked tags = has_tag switch_tag tags || has_tag trim_tag tags || has_tag life_tag tags

-- what the ordered record with a seqnum says
abbrev pub mark_in : BookState → ℕ → Mark
mark_in book seq = option_map_or (λ (r : Record). mark_of (body_of r.bytes)) (at_seq seq (ordered book)) m.Other

-- a live record that says this comes at a seqnum, behind these records
pub record Comes (seq : ℕ) (mark : Mark) (x : Live Body) (records : List (Live Body)) : Type 0 where
  pub seqnum : x.seq ≡ seq
  pub says : mark_of x.holds ≡ mark
  pub positive : 0 < seq
  pub newest : FallBelow seq records
