-- Something is due on every text; and calls that end before their text is there, or before its output is.
use Rattle.std.proofs.Common.{◌≡◌, ℕ, Bool, true, false, cond, List, [], length, Option, Some, None, Result, Ok, Err, refl, sym, subst}
use Rattle.std.specs.Prelude.{IfSome, IfOk, nat_lt}
use Rattle.lb_base.proofs.DeviceLemmas.{AppendsPrefix-none}
use Rattle.boki_types.specs.declared.kind.Kind.{Kind}
use Rattle.boki_types.specs.declared.kind.Kind.TheVariants as kind
use Rattle.line_text.specs.declared.fault.TextFault.{TextFault}
use Rattle.line_text.specs.declared.fault.TextFault.TheVariants as faults
use Rattle.line_text.specs.Faults.{refused_at}
use Rattle.call_base.specs.declared.status.Status.{Status}
use Rattle.call_base.specs.declared.status.Status.TheVariants.{Done, Memory}
use Rattle.call_base.specs.Due.{Due, due, refusal, within, Meets}
use Rattle.live_text.specs.declared.text.LiveText.{LiveText}
use Rattle.live_text.specs.Printed.{ran_text, IsOutputOf}
use Rattle.live_text.specs.Reading.{text_of_lines, live_text_of}
use Rattle.live_work.specs.Plain.{plain_ran}
use Rattle.live_work.proofs.PlainFits.{plain_fits}
use Rattle.live_call.specs.Live.{IsOutputDue, IsDueBy, MeetsLive, MeetsOutput}

-- what is due, by the run on one thread
output_due : (text : LiveText) → (d : Due) × IsOutputDue text d
output_due text = (due Done (ran_text (plain_ran text)), (ran_text (plain_ran text), (plain_ran text, plain_fits text, refl), refl))

some_due : (read : Result LiveText TextFault) → (d : Due) × IsDueBy read d
some_due (Ok text) = output_due text
some_due (Err (faults.Refused n k)) = (refusal n k, refl)
some_due (Err faults.Memory) = (due Memory [], refl)

-- there was no room for an output
pub no_output : (text : LiveText) (old : Option (List ℕ)) → MeetsOutput Memory text old old
no_output text old = let d = output_due text in (d.0, d.1, AppendsPrefix-none old d.0.text)

-- an output was written, or a front of it
pub written : (text : LiveText) (output : List ℕ) (s : Status) (old new : Option (List ℕ)) → IsOutputOf text output → Meets s (due Done output) old new → MeetsOutput s text old new
written text output s old new is m = (due Done output, (output, is, refl), m)

-- nor for the text itself
pub no_text : (text : List ℕ) (old : Option (List ℕ)) → MeetsLive Memory text old old
no_text text old = let d = some_due (live_text_of text) in (d.0, d.1, AppendsPrefix-none old d.0.text)

pub meets_read : (text : List ℕ) (t : LiveText) (s : Status) (old new : Option (List ℕ)) → live_text_of text ≡ Ok t → MeetsOutput s t old new → MeetsLive s text old new
meets_read text t s old new e m = (m.0, subst (λ (read : Result LiveText TextFault). IsDueBy read m.0) (sym e) m.1, m.2)

pub meets_refused : (text : List ℕ) (n : ℕ) (k : Kind) (s : Status) (old new : Option (List ℕ)) → live_text_of text ≡ Err (faults.Refused n k) → Meets s (refusal n k) old new → MeetsLive s text old new
meets_refused text n k s old new e m = (refusal n k, subst (λ (read : Result LiveText TextFault). IsDueBy read (refusal n k)) (sym e) refl, m)

pub none_read : (o old : Option (List ℕ)) → IfSome o (λ text. MeetsLive Memory text old old)
none_read None old = tt
none_read (Some text) old = no_text text old

-- a call that ends before it has its text ends as is due on the text
pub ended_live : (s : Status) (o old new : Option (List ℕ)) → IfSome o (λ text. (d : List ℕ → Due) → Meets s (within 1048576 d text) old new) → IfSome o (λ text. MeetsLive s text old new)
ended_live s None old new h = tt
ended_live s (Some text) old new h = go (nat_lt 1048576 (length text)) (h (λ t. (some_due (text_of_lines t)).0))
  where
    go : (b : Bool) → Meets s (cond b (refusal 0 kind.Length) (some_due (text_of_lines text)).0) old new
        → (d : Due) × IsDueBy (cond b (Err (refused_at 0 kind.Length)) (text_of_lines text)) d × Meets s d old new
    go true m = (refusal 0 kind.Length, refl, m)
    go false m = let d = some_due (text_of_lines text) in (d.0, d.1, m)
