-- What a source gave, and what a sink took, one call after another.
use Rattle.std.proofs.Common.{◌≡◌, ℕ, ◌+◌, ◌<◌, ◌≤◌, List, [], ◌++◌, length, take, drop, Option, Some, None, refl, sym, ap, ◌∙◌, append_assoc, arith, length-append, length-take}
use Rattle.std.specs.Prelude.{min, IfSome}
use Rattle.std.proofs.lemmas.List.{append-nil, take-append-drop, drop-drop, take_at, drop_at, nil_from_length}
use Rattle.lb_base.specs.declared.devices.Taken.TheVariants as taken
use Rattle.lb_base.specs.Devices.{Gave, IsAtEnd, Moves, Appends, AppendsPrefix}

pub Gave-none : (a : Option (List ℕ)) → Gave a a []
Gave-none None = tt
Gave-none (Some bytes) = refl

pub Gave-append : (a b c : Option (List ℕ)) (xs ys : List ℕ) → Gave a b xs → Gave b c ys → Gave a c (xs ++ ys)
Gave-append None b c xs ys h k = tt
Gave-append (Some bytes) None c xs ys h k = absurd h
Gave-append (Some bytes) (Some rest) None xs ys h k = absurd k
Gave-append (Some bytes) (Some rest) (Some last) xs ys h k = h ∙ ap (λ l. xs ++ l) k ∙ sym (append_assoc xs ys last)

-- A source at its end has given all, and nothing is left.
pub all_from_end : (a b c : Option (List ℕ)) (xs piece : List ℕ) (n : ℕ) → Gave a b xs → Gave b c (take n piece) → n ≡ 0 → IsAtEnd b → IfSome a (λ left. (xs ≡ left) × (c ≡ Some []))
all_from_end None b c xs piece n h m z k = tt
all_from_end (Some bytes) None c xs piece n h m z k = absurd h
all_from_end (Some bytes) (Some rest) None xs piece n h m z k = absurd m
all_from_end (Some bytes) (Some rest) (Some last) xs piece n h m z k =
    let none : length last ≡ 0 = omega (arith, ap length m, ap length k, length-append (take n piece) last) in
    (sym (h ∙ ap (λ l. xs ++ l) k ∙ append-nil xs), ap (λ (l : List ℕ). Some l) (nil_from_length last none))

-- A source that gave one byte past a limit had more bytes, and the others are left.
pub past_limit : (a b : Option (List ℕ)) (xs : List ℕ) (n : ℕ) → Gave a b xs → n < length xs → length xs ≤ n + 1 → IfSome a (λ left. (n < length left) × (b ≡ Some (drop (n + 1) left)))
past_limit None b xs n h k m = tt
past_limit (Some bytes) None xs n h k m = absurd h
past_limit (Some bytes) (Some rest) xs n h k m =
    let len : length xs ≡ n + 1 = omega arith in (
      omega (arith, ap length h, length-append xs rest),
      ap (λ (l : List ℕ). Some l) (sym (ap (drop (n + 1)) h ∙ drop_at xs rest (n + 1) len)),
    )

pub Appends-none : (a : Option (List ℕ)) → Appends a a []
Appends-none None = tt
Appends-none (Some bytes) = ap (λ l. Some l) (sym (append-nil bytes))

pub Appends-append : (a b c : Option (List ℕ)) (xs ys : List ℕ) → Appends a b xs → Appends b c ys → Appends a c (xs ++ ys)
Appends-append None b c xs ys h k = tt
Appends-append (Some bytes) b c xs ys h k =
    let next = rw h at k in
    next ∙ ap (λ l. Some l) (append_assoc bytes xs ys)

-- One call of take of a source in memory.
pub moved : (bytes into piece left : List ℕ) (at n : ℕ) → left ≡ drop at bytes → n ≡ min (length into) (length (drop at bytes)) → piece ≡ take n (drop at bytes) ++ drop n into → 0 < length into → Moves (Some left) (Some (drop (at + n) bytes)) (taken.Bytes n) piece
moved bytes into piece left at n is m e s =
    let copied = take n (drop at bytes) in
    let within : n ≤ length (drop at bytes) = omega arith in
    let len : length copied ≡ n = omega (arith, length-take n (drop at bytes)) in (
      omega (arith, ap length e, length-append copied (drop n into)),
      is ∙ sym (ap (λ l. l ++ drop (at + n) bytes) (ap (take n) e ∙ take_at copied (drop n into) n len) ∙ ap (λ l. copied ++ l) (sym (drop-drop n at bytes)) ∙ take-append-drop n (drop at bytes)),
      λ z. is ∙ nil_from_length (drop at bytes) (omega arith),
    )

-- A front that was taken grows by what a call of put takes.
pub front_more : (line front rest : List ℕ) (n : ℕ) → line ≡ front ++ rest → line ≡ (front ++ take n rest) ++ drop n rest
front_more line front rest n e = e ∙ ap (λ l. front ++ l) (sym (take-append-drop n rest)) ∙ sym (append_assoc front (take n rest) (drop n rest))

pub AppendsPrefix-none : (a : Option (List ℕ)) (text : List ℕ) → AppendsPrefix a a text
AppendsPrefix-none a text = ([], text, refl, Appends-none a)

-- a part was taken, and then a front of the next part
pub AppendsPrefix-within : (a b c : Option (List ℕ)) (done text rest : List ℕ) → Appends a b done → AppendsPrefix b c text → AppendsPrefix a c (done ++ (text ++ rest))
AppendsPrefix-within a b c done text rest h k = (
  done ++ k.0,
  k.1 ++ rest,
  ap (λ l. done ++ l) (ap (λ l. l ++ rest) k.2 ∙ append_assoc k.0 k.1 rest) ∙ sym (append_assoc done k.0 (k.1 ++ rest)),
  Appends-append a b c done k.0 h k.3,
)

pub AppendsPrefix-along : (a b : Option (List ℕ)) (text whole : List ℕ) → text ≡ whole → AppendsPrefix a b text → AppendsPrefix a b whole
AppendsPrefix-along a b text whole e h = (h.0, h.1, sym e ∙ h.2, h.3)

pub Appends-same : (a b : Option (List ℕ)) (xs ys : List ℕ) → xs ≡ ys → Appends a b xs → Appends a b ys
Appends-same a b xs ys e h = rw (← e) h

pub AppendsPrefix-more : (a b : Option (List ℕ)) (text rest : List ℕ) → AppendsPrefix a b text → AppendsPrefix a b (text ++ rest)
AppendsPrefix-more a b text rest h =
    (h.0, h.1 ++ rest, ap (λ l. l ++ rest) h.2 ∙ append_assoc h.0 h.1 rest, h.3)

pub AppendsPrefix-behind : (a b c : Option (List ℕ)) (done text : List ℕ) → Appends a b done → AppendsPrefix b c text → AppendsPrefix a c (done ++ text)
AppendsPrefix-behind a b c done text h k = (
  done ++ k.0,
  k.1,
  ap (λ l. done ++ l) k.2 ∙ sym (append_assoc done k.0 k.1),
  Appends-append a b c done k.0 h k.3,
)
