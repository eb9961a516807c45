-- The laws of the format: what is read is spelled so, what is spelled is read, and no spelling is another body's.
use Rattle.std.proofs.Common.{◌≡◌, ℕ, zero, suc, ◌+◌, ◌<◌, ◌≤◌, Bool, true, false, ◌&&◌, ltb, List, [], ◌∷◌, ◌++◌, length, get_or, Option, Some, None, Result, Ok, Err, refl, sym, ap, ◌∙◌, arith}
use Rattle.std.specs.List.{list_all}
use Rattle.std.specs.Int.{w16, to_be_bytes}
use Rattle.std.proofs.lemmas.Bool.{and_parts, ltb-true, le-leb}
use Rattle.std.proofs.lemmas.List.{length-append, append-nil}
use Rattle.boki_types.specs.declared.body.Body.{Body}
use Rattle.boki_types.specs.declared.body.Body.TheVariants as b
use Rattle.boki_model.specs.Bodies.{in_range}
use Rattle.rec_codec.specs.Spelling.{spelled, has_texts, is_short, text}
use Rattle.rec_codec.specs.Reading.{body_at, whole, read}
use Rattle.rec_codec.proofs.Fields.{IsBytes, ok_is}
use Rattle.rec_codec.proofs.Bodies.{Sound, body_takes, read_takes_all}
use Rattle.rec_codec.proofs.Again.{read_again}

-- each byte, by its place
by_place : (bytes : List ℕ) → list_all (λ c. ltb c 256) bytes ≡ true → IsBytes bytes
by_place [] h i = omega arith
by_place (c ∷ bytes) h zero = ltb-true c 256 (and_parts (ltb c 256) (list_all (λ d. ltb d 256) bytes) h).0
by_place (c ∷ bytes) h (suc i) = by_place bytes (and_parts (ltb c 256) (list_all (λ d. ltb d 256) bytes) h).1 i

pub read_spelled : (bytes : List ℕ) (body : Body) → list_all (λ c. ltb c 256) bytes ≡ true → read bytes ≡ Ok body → (in_range body ≡ true) × (has_texts body ≡ true) × (bytes ≡ spelled body)
read_spelled bytes body h e = read_takes_all bytes body (by_place bytes h) e

-- a user's bytes that fit a record are at most 4,092
pub short_by_length : (body : Body) → length (spelled body) ≤ 4096 → is_short body ≡ true
short_by_length (b.User bytes) h = le-leb (length bytes) 4092 (let e : length (to_be_bytes w16 (length bytes) ++ bytes) ≡ 2 + length bytes = length-append (to_be_bytes w16 (length bytes)) bytes in omega arith)
short_by_length (b.Submit p f args) h = refl
short_by_length (b.Init p) h = refl
short_by_length (b.Read p i key) h = refl
short_by_length (b.Write p i place key v) h = refl
short_by_length (b.Spawn p i ordinal f args) h = refl
short_by_length (b.Join p i ordinal) h = refl
short_by_length (b.Push p i queue v) h = refl
short_by_length (b.Pop p i queue) h = refl
short_by_length (b.TxnBegin p i ns) h = refl
short_by_length (b.TxnCommit p i began ns ws) h = refl
short_by_length (b.Finish p i o) h = refl
short_by_length (b.SwitchBegin target) h = refl
short_by_length b.SwitchEnd h = refl
short_by_length (b.Trim w) h = refl
short_by_length (b.TrimTag number upto) h = refl
short_by_length (b.ReadGroup p i ns) h = refl

pub spelled_read : (body : Body) → in_range body ≡ true → has_texts body ≡ true → length (spelled body) ≤ 4096 → read (spelled body) ≡ Ok body
spelled_read body h k s = read_again body h k (short_by_length body s)

pub one_only : (x y : Body) → in_range x ≡ true → has_texts x ≡ true → length (spelled x) ≤ 4096 → in_range y ≡ true → has_texts y ≡ true → spelled x ≡ spelled y → x ≡ y
one_only x y hx kx sx hy ky e =
    let sy : length (spelled y) ≤ 4096 = omega (arith, ap length e) in
    ok_is x y (sym (spelled_read x hx kx sx) ∙ ap read e ∙ spelled_read y hy ky sy)
