-- The kinds of refusal, as they are printed.
use Rattle.std.specs.Prelude.{ℕ, List, codes}
use Rattle.boki_types.specs.declared.kind.Kind.{Kind}
use Rattle.boki_types.specs.declared.kind.Kind.TheVariants as kind

abbrev pub kind_text : Kind → List ℕ
kind_text kind.Length = codes "length"
kind_text kind.Lines = codes "lines"
kind_text kind.Utf8 = codes "utf8"
kind_text kind.Truncated = codes "truncated"
kind_text kind.Syntax = codes "syntax"
kind_text kind.Range = codes "range"
kind_text kind.Record = codes "record"
kind_text kind.Deep = codes "deep"
kind_text kind.Events = codes "events"
kind_text kind.End = codes "end"
kind_text kind.Name = codes "name"
kind_text kind.Arity = codes "arity"
kind_text kind.Illegal = codes "illegal"
kind_text kind.NotBuilt = codes "notbuilt"
