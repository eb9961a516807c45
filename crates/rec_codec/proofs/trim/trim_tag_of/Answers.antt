use Rattle.std.proofs.Common.{◌≡◌, ℕ, ◌-◌, ◌^◌, ◌<◌, ◌≤◌, Bool, true, false, cond, ltb, List, length, get_or, take, drop, Option, Some, None, refl, sym, ap, ◌∙◌, arith}
use Rattle.std.specs.Int.{w64, from_be_bytes}
use Rattle.std.proofs.lemmas.Bool.{lt-ltb, le-ltb}
use Rattle.std.proofs.lemmas.List.{length-drop, take_all}
use Rattle.rec_codec.specs.Reading.{read, trim_in}
use Rattle.rec_codec.proofs.TrimLemmas.{IsTrim, trim_none, trim_is, trimmed, number_in, upto_in}
use Rattle.rec_codec.proofs.trim.trim_tag_of.Goals as goal
use Rattle.rec_codec.proofs.trim.trim_tag_of.Goals.{then-bytes-ne18-via-then-bytes-ne18, then-bytes-ne18-via-else-bytes-ne18+then-bytes-ne1, then-bytes-ne18-via-else-bytes-ne18+else-bytes-ne1+then-bytes-ne15}

pub returns-then-bytes-ne18 : goal.returns-then-bytes-ne18
returns-then-bytes-ne18 c =
    trim_none c.args.bytes.now (λ i. omega (arith, c.type_inv.bytes i)) (λ t.
    elim c.then-bytes-ne18.branch [
      | then-bytes-ne18-via-then-bytes-ne18 w ↦ omega (arith, t.len)
      | then-bytes-ne18-via-else-bytes-ne18+then-bytes-ne1 w ↦ omega (arith, t.format)
      | then-bytes-ne18-via-else-bytes-ne18+else-bytes-ne1+then-bytes-ne15 w ↦ omega (arith, t.kind)
    ])

-- the answer, by the test of the tag
told : (bytes : List ℕ) (t : Bool) (n u : ℕ) → IsTrim bytes → ltb (number_in bytes) (2 ^ 56) ≡ t → n ≡ number_in bytes → u ≡ upto_in bytes → cond t (trimmed n u) None ≡ trim_in (read bytes)
told bytes t n u is test en eu =
    ap (λ (k : ℕ). cond t (trimmed k u) None) en ∙ ap (λ (k : ℕ). cond t (trimmed (number_in bytes) k) None) eu
    ∙ ap (λ (b : Bool). cond b (trimmed (number_in bytes) (upto_in bytes)) None) (sym test) ∙ sym (trim_is bytes is)

pub returns-then-tag-ge72057594037927936 : goal.returns-then-tag-ge72057594037927936
returns-then-tag-ge72057594037927936 c =
    let is : IsTrim c.args.bytes.now = record { format = c.if-bytes-ne1.false; kind = c.if-bytes-ne15.false; len = c.if-bytes-ne18.false } in
    let ge : 2 ^ 56 ≤ number_in c.args.bytes.now = omega (arith, c.number-tag.ensures) in
    told c.args.bytes.now false c.number-tag.result (upto_in c.args.bytes.now) is (le-ltb (number_in c.args.bytes.now) (2 ^ 56) ge) c.number-tag.ensures refl

pub returns : goal.returns
returns c =
    let is : IsTrim c.args.bytes.now = record { format = c.if-bytes-ne1.false; kind = c.if-bytes-ne15.false; len = c.if-bytes-ne18.false } in
    let lt : number_in c.args.bytes.now < 2 ^ 56 = omega (arith, c.number-tag.ensures) in
    let upto : c.number-upto.result ≡ upto_in c.args.bytes.now = c.number-upto.ensures in
    told c.args.bytes.now true c.number-tag.result c.number-upto.result is (lt-ltb (number_in c.args.bytes.now) (2 ^ 56) lt) c.number-tag.ensures upto
