use Rattle.std.proofs.Common.{◌≡◌, ◌∙◌, List, Bool, map, sym, codes}
use Rattle.std.specs.Prelude.{String, string_bytes}
use Rattle.std.specs.List.{list_any}
use Rattle.std.specs.Str.{bytes_eq}
use Rattle.clap.proofs.WalkLemmas.{list_any-map}
use Rattle.clap.specs.Simple.{app_of}
use Rattle.command_line.proofs.AllWords.{taken, refused}
use Rattle.command_line.proofs.Dashes.{dashes_refused, has_dashes}
use Rattle.command_line.proofs.Range.{same_in_range}
use Rattle.command_line.proofs.request.request_of.Goals as goal

-- the test of the strings is that of their texts
tested : {Z : Type 0} (words : List (String Z)) (r b : Bool) → r ≡ list_any (λ word. bytes_eq (string_bytes word) (codes "--")) words → r ≡ b → has_dashes (map string_bytes words) ≡ b
tested words r b e f = sym (list_any-map (λ word. bytes_eq word (codes "--")) string_bytes words) ∙ sym e ∙ f

pub returns-then-has_dashes : goal.returns-then-has_dashes
returns-then-has_dashes c =
    let none = dashes_refused (map string_bytes c.args.words.now) (tested c.args.words.now _ _ c.has_dashes.ensures c.if-has_dashes.true) in
    record { value = none; in_range = tt }

pub returns-in-Ok : goal.returns-in-Ok
returns-in-Ok c =
    let value =
    taken (app_of c.in_ok-command_line.field-0) (map string_bytes c.args.words.now) c.in-Ok.matches c.matched.result c.in_ok-command_line.ensures
    (tested c.args.words.now _ _ c.has_dashes.ensures c.if-has_dashes.false) c.in-Ok.ensures.kinds c.in-Ok.ensures.matches c.matched.ensures in
    record { value = value; in_range = same_in_range c.matched.result (map string_bytes c.args.words.now) value }

pub returns : goal.returns
returns c =
    let none =
    refused (app_of c.in_ok-command_line.field-0) (map string_bytes c.args.words.now) c.in-Err.error c.in_ok-command_line.ensures
    (tested c.args.words.now _ _ c.has_dashes.ensures c.if-has_dashes.false) c.in-Err.ensures.kinds (λ e. c.in_default.not-OutOfMemory (c.kind.ensures ∙ e)) in
    record { value = none; in_range = tt }
