-- What a sink takes, one call after another; and calls that end before their text is there.
use Rattle.std.proofs.Common.{◌≡◌, ℕ, ◌+◌, ◌<◌, Bool, true, false, cond, refl, List, [], ◌++◌, length, drop, Option, Some, None, Result, Ok, Err, OnErr, ap, ◌∙◌, sym, subst, append_assoc, arith}
use Rattle.std.specs.Prelude.{IfSome, nat_lt}
use Rattle.std.proofs.lemmas.Bool.Decides.{nat_tests}
use Rattle.lb_base.specs.Devices.{Appends, AppendsPrefix}
use Rattle.lb_base.proofs.DeviceLemmas.{Appends-none, Appends-append, AppendsPrefix-none, AppendsPrefix-along, AppendsPrefix-within}
use Rattle.boki_types.specs.declared.kind.Kind.TheVariants as kind
use Rattle.call_base.specs.declared.status.Status.{Status}
use Rattle.call_base.specs.declared.status.Status.TheVariants.{ReadFault, Memory}
use Rattle.line_text.specs.declared.fault.TextFault.{TextFault}
use Rattle.line_text.specs.Faults.{refused_at}
use Rattle.call_base.specs.Due.{Due, Grows, Meets, due_by, refusal, within}

pub Grows-none : (a : Option (List ℕ)) → Grows a a
Grows-none a = ([], Appends-none a)

pub Grows-append : (a b c : Option (List ℕ)) → Grows a b → Grows b c → Grows a c
Grows-append a b c h k = (h.0 ++ k.0, Appends-append a b c h.0 k.0 h.1 k.1)

-- a text is written line by line: this much of it, and then a line, or a front of the line
abbrev pub Taken : Option (List ℕ) → Option (List ℕ) → List ℕ → List ℕ → Type 0
Taken a b text rest = (front : List ℕ) × (text ≡ front ++ rest) × Appends a b front

pub taken_more : (a b c : Option (List ℕ)) (text rest line after : List ℕ) → Taken a b text rest → rest ≡ line ++ after → Appends b c line → Taken a c text after
taken_more a b c text rest line after h e k = (
  h.0 ++ line,
  h.1 ∙ ap (λ l. h.0 ++ l) e ∙ sym (append_assoc h.0 line after),
  Appends-append a b c h.0 line h.2 k,
)

pub taken_front : {T E : Type 0} (r : Result T E) (a b c : Option (List ℕ)) (text rest line after : List ℕ) → Taken a b text rest → rest ≡ line ++ after → AppendsPrefix b c line → OnErr r (AppendsPrefix a c text)
taken_front (Ok x) a b c text rest line after h e k = tt
taken_front (Err x) a b c text rest line after h e k =
    AppendsPrefix-along a c (h.0 ++ (line ++ after)) text (sym (h.1 ∙ ap (λ l. h.0 ++ l) e)) (AppendsPrefix-within a b c h.0 line after h.2 k)

-- a text that is too long is refused
pub too_long : (limit : ℕ) (s : Status) (o rest old new : Option (List ℕ)) → IfSome o (λ text. (limit < length text) × (rest ≡ Some (drop (limit + 1) text)))
    → Meets s (refusal 0 kind.Length) old new → IfSome o (λ text. (d : List ℕ → Due) → Meets s (within limit d text) old new)
too_long limit s None rest old new h m = tt
too_long limit s (Some text) rest old new h m = λ d.
    let long : nat_lt limit (length text) ≡ true = grind (arith, nat_tests, h.0) in
    subst (λ (b : Bool). Meets s (cond b (refusal 0 kind.Length) (d text)) old new) (sym long) m

-- nothing was written under a fault of the source, whatever was due
pub nothing_read : (limit : ℕ) (o old : Option (List ℕ)) → IfSome o (λ text. (d : List ℕ → Due) → Meets ReadFault (within limit d text) old old)
nothing_read limit None old = tt
nothing_read limit (Some text) old = λ d. Appends-none old

-- nor where there was no room for the text
pub no_room : (limit : ℕ) (o old : Option (List ℕ)) → IfSome o (λ text. (d : List ℕ → Due) → Meets Memory (within limit d text) old old)
no_room limit None old = tt
no_room limit (Some text) old = λ d. AppendsPrefix-none old _

-- what is due on a text that is read up to a limit
pub read_within : {T : Type 0} (limit : ℕ) (f : T → Due) (read : List ℕ → Result T TextFault) (text : List ℕ)
    → within limit (λ t. due_by f (read t)) text ≡ due_by f (cond (nat_lt limit (length text)) (Err (refused_at 0 kind.Length)) (read text))
read_within limit f read text = go (nat_lt limit (length text))
  where
    go : (b : Bool) → cond b (refusal 0 kind.Length) (due_by f (read text)) ≡ due_by f (cond b (Err (refused_at 0 kind.Length)) (read text))
    go true = refl
    go false = refl

-- a call that ends before it has its text ends as is due on the text
pub ended_is : {T : Type 0} (limit : ℕ) (f : T → Due) (read : List ℕ → Result T TextFault) (s : Status) (o old new : Option (List ℕ))
    → IfSome o (λ text. (d : List ℕ → Due) → Meets s (within limit d text) old new)
    → IfSome o (λ text. Meets s (due_by f (cond (nat_lt limit (length text)) (Err (refused_at 0 kind.Length)) (read text))) old new)
ended_is limit f read s None old new h = tt
ended_is limit f read s (Some text) old new h =
    subst (λ (d : Due). Meets s d old new) (read_within limit f read text) (h (λ t. due_by f (read t)))
