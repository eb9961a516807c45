-- The texts of a plan that is read line by line are spelled in UTF-8.
use Rattle.std.proofs.Common.{◌≡◌, ℕ, ◌+◌, ◌*◌, Bool, true, false, cond, List, [], ◌∷◌, length, Option, Some, None, Result, Ok, Err, refl}
use Rattle.std.specs.Prelude.{IfOk, bytes_eq, codes}
use Rattle.std.specs.List.{list_all}
use Rattle.boki_types.specs.declared.event.Event.{Event}
use Rattle.boki_types.specs.declared.kind.Kind.{Kind}
use Rattle.boki_types.specs.declared.plan.Item.{Item}
use Rattle.boki_types.specs.declared.plan.Item.TheVariants.{One, Repeat}
use Rattle.boki_types.specs.declared.plan.Setup.{Setup}
use Rattle.boki_types.specs.declared.program.Function.{Function}
use Rattle.line_text.specs.declared.checked.Checked.{Checked}
use Rattle.line_text.specs.declared.checked.Checked.TheVariants as r
use Rattle.line_text.specs.declared.token.Keyword.TheVariants as k
use Rattle.line_text.specs.declared.token.Token.{Token}
use Rattle.line_text.specs.declared.token.Token.TheVariants as t
use Rattle.plan_lang.specs.declared.bodies.RepeatBlock.{RepeatBlock}
use Rattle.plan_lang.specs.declared.bodies.PlanBody.{PlanBody}
use Rattle.plan_lang.specs.declared.drafts.PlanDraft.{PlanDraft}
use Rattle.plan_lang.specs.declared.events.Entry.{Entry}
use Rattle.plan_lang.specs.declared.heads.Head.{Head}
use Rattle.plan_lang.specs.EventLines.{times_of, body_with_repeat, body_with_open_repeat, body_with_counted, body_with_closed, body_with_end, within_event_limit, body_with_event, body_with_entry, body_with_found, body_line}
use Rattle.plan_lang.specs.Events.{entry_of_word}
use Rattle.plan_lang.specs.Heads.{head_line, has_ended}
use Rattle.plan_lang.specs.Texts.{with_head, with_body, plan_part_line, plan_line, empty_plan_draft}
use Rattle.plan_lang.proofs.CleanEvents.{is_clean_event, is_clean_entry, worded_clean}
use Rattle.plan_lang.proofs.CleanHeads.{CleanHead, head_clean, no_head_clean}
use Rattle.line_text.proofs.FieldsInRange.{IfLineValid}
use Rattle.plan_lang.proofs.PlansInLimits.{all_more}
use Rattle.line_text.proofs.LineInvariants.{Keeps}
use Rattle.line_text.proofs.Utf8Tokens.{are_clean}

-- Bodies.
abbrev pub is_clean_item : Item → Bool
is_clean_item (One x) = is_clean_event x
is_clean_item (Repeat n xs) = list_all is_clean_event xs

abbrev CleanBlock : Option RepeatBlock → Type 0
CleanBlock None = Unit {0}
CleanBlock (Some block) = list_all is_clean_event block.events ≡ true

pub record CleanBody (b : PlanBody) : Type 0 where
  pub items : list_all is_clean_item b.items ≡ true
  block : CleanBlock b.block

abbrev BodyOk : Result PlanBody Kind → Type 0
BodyOk o = IfOk o CleanBody

opened_by_clean : (b : PlanBody) (o : Option RepeatBlock) (x : Checked ℕ) → CleanBody b → BodyOk (body_with_open_repeat b o x)
opened_by_clean b (Some block) x g = tt
opened_by_clean b None r.OutOfRange g = tt
opened_by_clean b None r.TooDeep g = tt
opened_by_clean b None (r.Valid n) g = record { items = g.items; block = refl }

opened_clean : (b : PlanBody) (o : Option (Checked ℕ)) → CleanBody b → BodyOk (body_with_repeat b o)
opened_clean b None g = tt
opened_clean b (Some x) g = opened_by_clean b b.block x g

counted_clean : (b : PlanBody) (block : RepeatBlock) (o : Option ℕ) → CleanBody b → CleanBlock (Some block) → BodyOk (body_with_counted b block o)
counted_clean b block None g h = tt
counted_clean b block (Some n) g h = record { items = all_more is_clean_item b.items (Repeat block.times block.events) g.items h; block = tt }

closed_by_clean : (b : PlanBody) (block : RepeatBlock) (xs : List Event) → CleanBody b → CleanBlock (Some block) → BodyOk (body_with_closed b block xs)
closed_by_clean b block [] g h = tt
closed_by_clean b block (x ∷ xs) g h = counted_clean b block (within_event_limit (b.count + block.times * length block.events)) g h

closed_clean : (b : PlanBody) (o : Option RepeatBlock) (ts : List Token) → CleanBody b → CleanBlock o → BodyOk (body_with_end b o ts)
closed_clean b (Some block) [] g h = closed_by_clean b block block.events g h
closed_clean b (Some block) (x ∷ ts) g h = tt
closed_clean b None ts g h = tt

added_clean : (n : ℕ) (b : PlanBody) (x : Entry) (o : Option ℕ) → CleanBody b → is_clean_entry x ≡ true → BodyOk (body_with_event n b x o)
added_clean n b x None g h = tt
added_clean n b x (Some count) g h = record { items = all_more is_clean_item b.items (One x.event) g.items h; block = tt }

placed_clean : (n : ℕ) (b : PlanBody) (o : Option RepeatBlock) (x : Entry) → CleanBody b → CleanBlock o → is_clean_entry x ≡ true → BodyOk (body_with_entry n b o x)
placed_clean n b (Some block) x g c h = record { items = g.items; block = all_more is_clean_event block.events x.event c h }
placed_clean n b None x g c h = added_clean n b x (within_event_limit (b.count + 1)) g h

heard_clean : (n : ℕ) (b : PlanBody) (o : Option (Checked Entry)) → CleanBody b → IfLineValid is_clean_entry o → BodyOk (body_with_found n b o)
heard_clean n b None g h = tt
heard_clean n b (Some r.OutOfRange) g h = tt
heard_clean n b (Some r.TooDeep) g h = tt
heard_clean n b (Some (r.Valid x)) g h = placed_clean n b b.block x g g.block h

worded_by : (setup : Setup) (fs : List Function) (n : ℕ) (x : List ℕ) (ts : List Token) (b : PlanBody) (c : Bool) → are_clean ts ≡ true → CleanBody b → BodyOk (cond c (body_with_repeat b (times_of ts)) (body_with_found n b (entry_of_word setup fs x ts)))
worded_by setup fs n x ts b true h g = opened_clean b (times_of ts) g
worded_by setup fs n x ts b false h g = heard_clean n b (entry_of_word setup fs x ts) g (worded_clean setup fs x ts h)

body_clean : (setup : Setup) (fs : List Function) (n : ℕ) (ts : List Token) (b : PlanBody) → are_clean ts ≡ true → CleanBody b → BodyOk (body_line setup fs n ts b)
body_clean setup fs n (t.Name x ∷ ts) b h g = worded_by setup fs n x ts b (bytes_eq x (codes "repeat")) h g
body_clean setup fs n (t.Keyword k.End ∷ ts) b h g = closed_clean b b.block ts g g.block
body_clean setup fs n _ b h g = tt

-- Plans.
pub record CleanPlan (d : PlanDraft) : Type 0 where
  pub head : CleanHead d.head
  pub body : CleanBody d.body

headed_clean : (d : PlanDraft) (o : Result Head Kind) → IfOk o CleanHead → CleanBody d.body → IfOk (with_head d o) CleanPlan
headed_clean d (Err k) h g = tt
headed_clean d (Ok x) h g = record { head = h; body = g }

bodied_clean : (d : PlanDraft) (o : Result PlanBody Kind) → CleanHead d.head → BodyOk o → IfOk (with_body d o) CleanPlan
bodied_clean d (Err k) h g = tt
bodied_clean d (Ok x) h g = record { head = h; body = g }

plan_by_clean : (n : ℕ) (ts : List Token) (d : PlanDraft) (c : Bool) → are_clean ts ≡ true → CleanPlan d → IfOk (plan_part_line n ts d c) CleanPlan
plan_by_clean n ts d false h g = headed_clean d (head_line (codes "events") n ts d.head) (head_clean (codes "events") n ts d.head h g.head) g.body
plan_by_clean n ts d true h g =
    bodied_clean d (body_line d.head.setup d.head.draft.functions n ts d.body) g.head (body_clean d.head.setup d.head.draft.functions n ts d.body h g.body)

pub plan_keeps_clean : Keeps CleanPlan plan_line
plan_keeps_clean n ts d t h g = plan_by_clean n ts d (has_ended d.head.expected) h g

pub no_plan_clean : CleanPlan empty_plan_draft
no_plan_clean = record { head = no_head_clean; body = record { items = refl; block = tt } }
