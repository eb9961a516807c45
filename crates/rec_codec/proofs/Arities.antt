-- Fields one behind the other: what is read is spelled so, and what is spelled is read again.
use Rattle.std.proofs.Common.{◌≡◌, ℕ, zero, suc, ◌+◌, ◌-◌, ◌^◌, ◌<◌, ◌≤◌, Bool, true, false, ◌&&◌, cond, eqb, ltb, leb, List, [], ◌∷◌, ◌++◌, length, get_or, Option, Some, None, Result, Ok, Err, refl, sym, ap, subst, ◌∙◌, append_assoc, arith, inl, inr}
use Rattle.rec_codec.specs.Reading.{Reader, ◌>>=◌}
use Rattle.boki_types.specs.declared.body.Body.{Body}
use Rattle.rec_codec.proofs.Fields.{IsBytes, bind_ok, ok_is, Takes, ReadsLine-then, Reads}

-- a body, and the bytes behind it
abbrev pub built : Body → List ℕ → Result (Body × List ℕ) ℕ
built body rest = Ok (body, rest)

-- one field
pub record Read-one {A : Type 0} (sa : A → List ℕ) (pa : A → Bool) (f : A → Body) (bytes : List ℕ) (body : Body) (rest : List ℕ) : Type 0 where
  pub x : A
  pub x_ok : pa x ≡ true
  pub made : f x ≡ body
  pub taken : Takes bytes (sa x) rest

pub one : {A : Type 0} {sa : A → List ℕ} {pa : A → Bool} {ra : Reader A} → Reads A sa pa ra → (f : A → Body) (bytes : List ℕ) (body : Body) (rest : List ℕ) → IsBytes bytes → (ra bytes >>= λ q0. built (f q0.0) q0.1) ≡ Ok (body, rest) → Read-one sa pa f bytes body rest
one {A} {sa} {pa} {ra} la f bytes body rest fits e =
    let b0 = bind_ok (ra bytes) (λ q0. built (f q0.0) q0.1) (body, rest) e in
    let t0 = la.takes bytes b0.0.0 b0.0.1 fits b0.1 in
    let made : Body × List ℕ = (f b0.0.0, b0.0.1) in
    let g = ok_is made (body, rest) b0.2 in
    record {
      x = b0.0.0;
      x_ok = t0.1;
      made = ap (λ (p : Body × List ℕ). p.0) g;
      taken = subst (λ (r : List ℕ). Takes bytes (sa b0.0.0) r) (ap (λ (p : Body × List ℕ). p.1) g) t0.0;
    }

pub one_again : {A : Type 0} {sa : A → List ℕ} {pa : A → Bool} {ra : Reader A} → Reads A sa pa ra → (f : A → Body) (x : A) (rest : List ℕ) → pa x ≡ true → (ra ((sa x) ++ rest) >>= λ q0. built (f q0.0) q0.1) ≡ Ok (f x, rest)
one_again {A} {sa} {pa} {ra} la f x rest hx =
    ap (λ (r : Result (A × List ℕ) ℕ). r >>= λ q0. built (f q0.0) q0.1) (la.again x (rest) hx)

-- two fields, one behind the other
pub record Read-two {A B : Type 0} (sa : A → List ℕ) (pa : A → Bool) (sb : B → List ℕ) (pb : B → Bool) (f : A → B → Body) (bytes : List ℕ) (body : Body) (rest : List ℕ) : Type 0 where
  pub x : A
  pub y : B
  pub x_ok : pa x ≡ true
  pub y_ok : pb y ≡ true
  pub made : f x y ≡ body
  pub taken : Takes bytes (sa x ++ sb y) rest

pub two : {A : Type 0} {sa : A → List ℕ} {pa : A → Bool} {ra : Reader A} {B : Type 0} {sb : B → List ℕ} {pb : B → Bool} {rb : Reader B} → Reads A sa pa ra → Reads B sb pb rb → (f : A → B → Body) (bytes : List ℕ) (body : Body) (rest : List ℕ) → IsBytes bytes → (ra bytes >>= λ q0. rb q0.1 >>= λ q1. built (f q0.0 q1.0) q1.1) ≡ Ok (body, rest) → Read-two sa pa sb pb f bytes body rest
two {A} {sa} {pa} {ra} {B} {sb} {pb} {rb} la lb f bytes body rest fits e =
    let b0 = bind_ok (ra bytes) (λ q0. rb q0.1 >>= λ q1. built (f q0.0 q1.0) q1.1) (body, rest) e in
    let t0 = la.takes bytes b0.0.0 b0.0.1 fits b0.1 in
    let b1 = bind_ok (rb b0.0.1) (λ q1. built (f b0.0.0 q1.0) q1.1) (body, rest) b0.2 in
    let t1 = lb.takes b0.0.1 b1.0.0 b1.0.1 t0.0.rest_fits b1.1 in
    let made : Body × List ℕ = (f b0.0.0 b1.0.0, b1.0.1) in
    let g = ok_is made (body, rest) b1.2 in
    let c0 = ReadsLine-then bytes (sa b0.0.0) b0.0.1 (sb b1.0.0) b1.0.1 t0.0 t1.0 in
    record {
      x = b0.0.0;
      y = b1.0.0;
      x_ok = t0.1;
      y_ok = t1.1;
      made = ap (λ (p : Body × List ℕ). p.0) g;
      taken = subst (λ (r : List ℕ). Takes bytes (sa b0.0.0 ++ sb b1.0.0) r) (ap (λ (p : Body × List ℕ). p.1) g) c0;
    }

pub two_again : {A : Type 0} {sa : A → List ℕ} {pa : A → Bool} {ra : Reader A} {B : Type 0} {sb : B → List ℕ} {pb : B → Bool} {rb : Reader B} → Reads A sa pa ra → Reads B sb pb rb → (f : A → B → Body) (x : A) (y : B) (rest : List ℕ) → pa x ≡ true → pb y ≡ true → (ra ((sa x ++ sb y) ++ rest) >>= λ q0. rb q0.1 >>= λ q1. built (f q0.0 q1.0) q1.1) ≡ Ok (f x y, rest)
two_again {A} {sa} {pa} {ra} {B} {sb} {pb} {rb} la lb f x y rest hx hy =
    let regrouped : (sa x ++ sb y) ++ rest ≡ sa x ++ (sb y ++ rest) = simp append_assoc in
    ap (λ (t : List ℕ). ra t >>= λ q0. rb q0.1 >>= λ q1. built (f q0.0 q1.0) q1.1) regrouped
    ∙ ap (λ (r : Result (A × List ℕ) ℕ). r >>= λ q0. rb q0.1 >>= λ q1. built (f q0.0 q1.0) q1.1) (la.again x (sb y ++ rest) hx)
    ∙ ap (λ (r : Result (B × List ℕ) ℕ). r >>= λ q1. built (f x q1.0) q1.1) (lb.again y (rest) hy)

-- three fields, one behind the other
pub record Read-three {A B C : Type 0} (sa : A → List ℕ) (pa : A → Bool) (sb : B → List ℕ) (pb : B → Bool) (sc : C → List ℕ) (pc : C → Bool) (f : A → B → C → Body) (bytes : List ℕ) (body : Body) (rest : List ℕ) : Type 0 where
  pub x : A
  pub y : B
  pub z : C
  pub x_ok : pa x ≡ true
  pub y_ok : pb y ≡ true
  pub z_ok : pc z ≡ true
  pub made : f x y z ≡ body
  pub taken : Takes bytes (sa x ++ (sb y ++ sc z)) rest

pub three : {A : Type 0} {sa : A → List ℕ} {pa : A → Bool} {ra : Reader A} {B : Type 0} {sb : B → List ℕ} {pb : B → Bool} {rb : Reader B} {C : Type 0} {sc : C → List ℕ} {pc : C → Bool} {rc : Reader C} → Reads A sa pa ra → Reads B sb pb rb → Reads C sc pc rc → (f : A → B → C → Body) (bytes : List ℕ) (body : Body) (rest : List ℕ) → IsBytes bytes → (ra bytes >>= λ q0. rb q0.1 >>= λ q1. rc q1.1 >>= λ q2. built (f q0.0 q1.0 q2.0) q2.1) ≡ Ok (body, rest) → Read-three sa pa sb pb sc pc f bytes body rest
three {A} {sa} {pa} {ra} {B} {sb} {pb} {rb} {C} {sc} {pc} {rc} la lb lc f bytes body rest fits e =
    let b0 = bind_ok (ra bytes) (λ q0. rb q0.1 >>= λ q1. rc q1.1 >>= λ q2. built (f q0.0 q1.0 q2.0) q2.1) (body, rest) e in
    let t0 = la.takes bytes b0.0.0 b0.0.1 fits b0.1 in
    let b1 = bind_ok (rb b0.0.1) (λ q1. rc q1.1 >>= λ q2. built (f b0.0.0 q1.0 q2.0) q2.1) (body, rest) b0.2 in
    let t1 = lb.takes b0.0.1 b1.0.0 b1.0.1 t0.0.rest_fits b1.1 in
    let b2 = bind_ok (rc b1.0.1) (λ q2. built (f b0.0.0 b1.0.0 q2.0) q2.1) (body, rest) b1.2 in
    let t2 = lc.takes b1.0.1 b2.0.0 b2.0.1 t1.0.rest_fits b2.1 in
    let made : Body × List ℕ = (f b0.0.0 b1.0.0 b2.0.0, b2.0.1) in
    let g = ok_is made (body, rest) b2.2 in
    let c1 = ReadsLine-then b0.0.1 (sb b1.0.0) b1.0.1 (sc b2.0.0) b2.0.1 t1.0 t2.0 in
    let c0 = ReadsLine-then bytes (sa b0.0.0) b0.0.1 (sb b1.0.0 ++ (sc b2.0.0)) b2.0.1 t0.0 c1 in
    record {
      x = b0.0.0;
      y = b1.0.0;
      z = b2.0.0;
      x_ok = t0.1;
      y_ok = t1.1;
      z_ok = t2.1;
      made = ap (λ (p : Body × List ℕ). p.0) g;
      taken = subst (λ (r : List ℕ). Takes bytes (sa b0.0.0 ++ (sb b1.0.0 ++ sc b2.0.0)) r) (ap (λ (p : Body × List ℕ). p.1) g) c0;
    }

pub three_again : {A : Type 0} {sa : A → List ℕ} {pa : A → Bool} {ra : Reader A} {B : Type 0} {sb : B → List ℕ} {pb : B → Bool} {rb : Reader B} {C : Type 0} {sc : C → List ℕ} {pc : C → Bool} {rc : Reader C} → Reads A sa pa ra → Reads B sb pb rb → Reads C sc pc rc → (f : A → B → C → Body) (x : A) (y : B) (z : C) (rest : List ℕ) → pa x ≡ true → pb y ≡ true → pc z ≡ true → (ra ((sa x ++ (sb y ++ sc z)) ++ rest) >>= λ q0. rb q0.1 >>= λ q1. rc q1.1 >>= λ q2. built (f q0.0 q1.0 q2.0) q2.1) ≡ Ok (f x y z, rest)
three_again {A} {sa} {pa} {ra} {B} {sb} {pb} {rb} {C} {sc} {pc} {rc} la lb lc f x y z rest hx hy hz =
    let regrouped : (sa x ++ (sb y ++ sc z)) ++ rest ≡ sa x ++ (sb y ++ (sc z ++ rest)) = simp append_assoc in
    ap (λ (t : List ℕ). ra t >>= λ q0. rb q0.1 >>= λ q1. rc q1.1 >>= λ q2. built (f q0.0 q1.0 q2.0) q2.1) regrouped
    ∙ ap (λ (r : Result (A × List ℕ) ℕ). r >>= λ q0. rb q0.1 >>= λ q1. rc q1.1 >>= λ q2. built (f q0.0 q1.0 q2.0) q2.1) (la.again x (sb y ++ (sc z ++ rest)) hx)
    ∙ ap (λ (r : Result (B × List ℕ) ℕ). r >>= λ q1. rc q1.1 >>= λ q2. built (f x q1.0 q2.0) q2.1) (lb.again y (sc z ++ rest) hy)
    ∙ ap (λ (r : Result (C × List ℕ) ℕ). r >>= λ q2. built (f x y q2.0) q2.1) (lc.again z (rest) hz)

-- four fields, one behind the other
pub record Read-four {A B C D : Type 0} (sa : A → List ℕ) (pa : A → Bool) (sb : B → List ℕ) (pb : B → Bool) (sc : C → List ℕ) (pc : C → Bool) (sd : D → List ℕ) (pd : D → Bool) (f : A → B → C → D → Body) (bytes : List ℕ) (body : Body) (rest : List ℕ) : Type 0 where
  pub x : A
  pub y : B
  pub z : C
  pub u : D
  pub x_ok : pa x ≡ true
  pub y_ok : pb y ≡ true
  pub z_ok : pc z ≡ true
  pub u_ok : pd u ≡ true
  pub made : f x y z u ≡ body
  pub taken : Takes bytes (sa x ++ (sb y ++ (sc z ++ sd u))) rest

pub four : {A : Type 0} {sa : A → List ℕ} {pa : A → Bool} {ra : Reader A} {B : Type 0} {sb : B → List ℕ} {pb : B → Bool} {rb : Reader B} {C : Type 0} {sc : C → List ℕ} {pc : C → Bool} {rc : Reader C} {D : Type 0} {sd : D → List ℕ} {pd : D → Bool} {rd : Reader D} → Reads A sa pa ra → Reads B sb pb rb → Reads C sc pc rc → Reads D sd pd rd → (f : A → B → C → D → Body) (bytes : List ℕ) (body : Body) (rest : List ℕ) → IsBytes bytes → (ra bytes >>= λ q0. rb q0.1 >>= λ q1. rc q1.1 >>= λ q2. rd q2.1 >>= λ q3. built (f q0.0 q1.0 q2.0 q3.0) q3.1) ≡ Ok (body, rest) → Read-four sa pa sb pb sc pc sd pd f bytes body rest
four {A} {sa} {pa} {ra} {B} {sb} {pb} {rb} {C} {sc} {pc} {rc} {D} {sd} {pd} {rd} la lb lc ld f bytes body rest fits e =
    let b0 = bind_ok (ra bytes) (λ q0. rb q0.1 >>= λ q1. rc q1.1 >>= λ q2. rd q2.1 >>= λ q3. built (f q0.0 q1.0 q2.0 q3.0) q3.1) (body, rest) e in
    let t0 = la.takes bytes b0.0.0 b0.0.1 fits b0.1 in
    let b1 = bind_ok (rb b0.0.1) (λ q1. rc q1.1 >>= λ q2. rd q2.1 >>= λ q3. built (f b0.0.0 q1.0 q2.0 q3.0) q3.1) (body, rest) b0.2 in
    let t1 = lb.takes b0.0.1 b1.0.0 b1.0.1 t0.0.rest_fits b1.1 in
    let b2 = bind_ok (rc b1.0.1) (λ q2. rd q2.1 >>= λ q3. built (f b0.0.0 b1.0.0 q2.0 q3.0) q3.1) (body, rest) b1.2 in
    let t2 = lc.takes b1.0.1 b2.0.0 b2.0.1 t1.0.rest_fits b2.1 in
    let b3 = bind_ok (rd b2.0.1) (λ q3. built (f b0.0.0 b1.0.0 b2.0.0 q3.0) q3.1) (body, rest) b2.2 in
    let t3 = ld.takes b2.0.1 b3.0.0 b3.0.1 t2.0.rest_fits b3.1 in
    let made : Body × List ℕ = (f b0.0.0 b1.0.0 b2.0.0 b3.0.0, b3.0.1) in
    let g = ok_is made (body, rest) b3.2 in
    let c2 = ReadsLine-then b1.0.1 (sc b2.0.0) b2.0.1 (sd b3.0.0) b3.0.1 t2.0 t3.0 in
    let c1 = ReadsLine-then b0.0.1 (sb b1.0.0) b1.0.1 (sc b2.0.0 ++ (sd b3.0.0)) b3.0.1 t1.0 c2 in
    let c0 = ReadsLine-then bytes (sa b0.0.0) b0.0.1 (sb b1.0.0 ++ (sc b2.0.0 ++ (sd b3.0.0))) b3.0.1 t0.0 c1 in
    record {
      x = b0.0.0;
      y = b1.0.0;
      z = b2.0.0;
      u = b3.0.0;
      x_ok = t0.1;
      y_ok = t1.1;
      z_ok = t2.1;
      u_ok = t3.1;
      made = ap (λ (p : Body × List ℕ). p.0) g;
      taken = subst (λ (r : List ℕ). Takes bytes (sa b0.0.0 ++ (sb b1.0.0 ++ (sc b2.0.0 ++ sd b3.0.0))) r) (ap (λ (p : Body × List ℕ). p.1) g) c0;
    }

pub four_again : {A : Type 0} {sa : A → List ℕ} {pa : A → Bool} {ra : Reader A} {B : Type 0} {sb : B → List ℕ} {pb : B → Bool} {rb : Reader B} {C : Type 0} {sc : C → List ℕ} {pc : C → Bool} {rc : Reader C} {D : Type 0} {sd : D → List ℕ} {pd : D → Bool} {rd : Reader D} → Reads A sa pa ra → Reads B sb pb rb → Reads C sc pc rc → Reads D sd pd rd → (f : A → B → C → D → Body) (x : A) (y : B) (z : C) (u : D) (rest : List ℕ) → pa x ≡ true → pb y ≡ true → pc z ≡ true → pd u ≡ true → (ra ((sa x ++ (sb y ++ (sc z ++ sd u))) ++ rest) >>= λ q0. rb q0.1 >>= λ q1. rc q1.1 >>= λ q2. rd q2.1 >>= λ q3. built (f q0.0 q1.0 q2.0 q3.0) q3.1) ≡ Ok (f x y z u, rest)
four_again {A} {sa} {pa} {ra} {B} {sb} {pb} {rb} {C} {sc} {pc} {rc} {D} {sd} {pd} {rd} la lb lc ld f x y z u rest hx hy hz hu =
    let regrouped : (sa x ++ (sb y ++ (sc z ++ sd u))) ++ rest ≡ sa x ++ (sb y ++ (sc z ++ (sd u ++ rest))) = simp append_assoc in
    ap (λ (t : List ℕ). ra t >>= λ q0. rb q0.1 >>= λ q1. rc q1.1 >>= λ q2. rd q2.1 >>= λ q3. built (f q0.0 q1.0 q2.0 q3.0) q3.1) regrouped
    ∙ ap (λ (r : Result (A × List ℕ) ℕ). r >>= λ q0. rb q0.1 >>= λ q1. rc q1.1 >>= λ q2. rd q2.1 >>= λ q3. built (f q0.0 q1.0 q2.0 q3.0) q3.1) (la.again x (sb y ++ (sc z ++ (sd u ++ rest))) hx)
    ∙ ap (λ (r : Result (B × List ℕ) ℕ). r >>= λ q1. rc q1.1 >>= λ q2. rd q2.1 >>= λ q3. built (f x q1.0 q2.0 q3.0) q3.1) (lb.again y (sc z ++ (sd u ++ rest)) hy)
    ∙ ap (λ (r : Result (C × List ℕ) ℕ). r >>= λ q2. rd q2.1 >>= λ q3. built (f x y q2.0 q3.0) q3.1) (lc.again z (sd u ++ rest) hz)
    ∙ ap (λ (r : Result (D × List ℕ) ℕ). r >>= λ q3. built (f x y z q3.0) q3.1) (ld.again u (rest) hu)

-- five fields, one behind the other
pub record Read-five {A B C D E : Type 0} (sa : A → List ℕ) (pa : A → Bool) (sb : B → List ℕ) (pb : B → Bool) (sc : C → List ℕ) (pc : C → Bool) (sd : D → List ℕ) (pd : D → Bool) (se : E → List ℕ) (pe : E → Bool) (f : A → B → C → D → E → Body) (bytes : List ℕ) (body : Body) (rest : List ℕ) : Type 0 where
  pub x : A
  pub y : B
  pub z : C
  pub u : D
  pub v : E
  pub x_ok : pa x ≡ true
  pub y_ok : pb y ≡ true
  pub z_ok : pc z ≡ true
  pub u_ok : pd u ≡ true
  pub v_ok : pe v ≡ true
  pub made : f x y z u v ≡ body
  pub taken : Takes bytes (sa x ++ (sb y ++ (sc z ++ (sd u ++ se v)))) rest

pub five : {A : Type 0} {sa : A → List ℕ} {pa : A → Bool} {ra : Reader A} {B : Type 0} {sb : B → List ℕ} {pb : B → Bool} {rb : Reader B} {C : Type 0} {sc : C → List ℕ} {pc : C → Bool} {rc : Reader C} {D : Type 0} {sd : D → List ℕ} {pd : D → Bool} {rd : Reader D} {E : Type 0} {se : E → List ℕ} {pe : E → Bool} {re : Reader E} → Reads A sa pa ra → Reads B sb pb rb → Reads C sc pc rc → Reads D sd pd rd → Reads E se pe re → (f : A → B → C → D → E → Body) (bytes : List ℕ) (body : Body) (rest : List ℕ) → IsBytes bytes → (ra bytes >>= λ q0. rb q0.1 >>= λ q1. rc q1.1 >>= λ q2. rd q2.1 >>= λ q3. re q3.1 >>= λ q4. built (f q0.0 q1.0 q2.0 q3.0 q4.0) q4.1) ≡ Ok (body, rest) → Read-five sa pa sb pb sc pc sd pd se pe f bytes body rest
five {A} {sa} {pa} {ra} {B} {sb} {pb} {rb} {C} {sc} {pc} {rc} {D} {sd} {pd} {rd} {E} {se} {pe} {re} la lb lc ld le f bytes body rest fits e =
    let b0 = bind_ok (ra bytes) (λ q0. rb q0.1 >>= λ q1. rc q1.1 >>= λ q2. rd q2.1 >>= λ q3. re q3.1 >>= λ q4. built (f q0.0 q1.0 q2.0 q3.0 q4.0) q4.1) (body, rest) e in
    let t0 = la.takes bytes b0.0.0 b0.0.1 fits b0.1 in
    let b1 = bind_ok (rb b0.0.1) (λ q1. rc q1.1 >>= λ q2. rd q2.1 >>= λ q3. re q3.1 >>= λ q4. built (f b0.0.0 q1.0 q2.0 q3.0 q4.0) q4.1) (body, rest) b0.2 in
    let t1 = lb.takes b0.0.1 b1.0.0 b1.0.1 t0.0.rest_fits b1.1 in
    let b2 = bind_ok (rc b1.0.1) (λ q2. rd q2.1 >>= λ q3. re q3.1 >>= λ q4. built (f b0.0.0 b1.0.0 q2.0 q3.0 q4.0) q4.1) (body, rest) b1.2 in
    let t2 = lc.takes b1.0.1 b2.0.0 b2.0.1 t1.0.rest_fits b2.1 in
    let b3 = bind_ok (rd b2.0.1) (λ q3. re q3.1 >>= λ q4. built (f b0.0.0 b1.0.0 b2.0.0 q3.0 q4.0) q4.1) (body, rest) b2.2 in
    let t3 = ld.takes b2.0.1 b3.0.0 b3.0.1 t2.0.rest_fits b3.1 in
    let b4 = bind_ok (re b3.0.1) (λ q4. built (f b0.0.0 b1.0.0 b2.0.0 b3.0.0 q4.0) q4.1) (body, rest) b3.2 in
    let t4 = le.takes b3.0.1 b4.0.0 b4.0.1 t3.0.rest_fits b4.1 in
    let made : Body × List ℕ = (f b0.0.0 b1.0.0 b2.0.0 b3.0.0 b4.0.0, b4.0.1) in
    let g = ok_is made (body, rest) b4.2 in
    let c3 = ReadsLine-then b2.0.1 (sd b3.0.0) b3.0.1 (se b4.0.0) b4.0.1 t3.0 t4.0 in
    let c2 = ReadsLine-then b1.0.1 (sc b2.0.0) b2.0.1 (sd b3.0.0 ++ (se b4.0.0)) b4.0.1 t2.0 c3 in
    let c1 = ReadsLine-then b0.0.1 (sb b1.0.0) b1.0.1 (sc b2.0.0 ++ (sd b3.0.0 ++ (se b4.0.0))) b4.0.1 t1.0 c2 in
    let c0 = ReadsLine-then bytes (sa b0.0.0) b0.0.1 (sb b1.0.0 ++ (sc b2.0.0 ++ (sd b3.0.0 ++ (se b4.0.0)))) b4.0.1 t0.0 c1 in
    record {
      x = b0.0.0;
      y = b1.0.0;
      z = b2.0.0;
      u = b3.0.0;
      v = b4.0.0;
      x_ok = t0.1;
      y_ok = t1.1;
      z_ok = t2.1;
      u_ok = t3.1;
      v_ok = t4.1;
      made = ap (λ (p : Body × List ℕ). p.0) g;
      taken = subst (λ (r : List ℕ). Takes bytes (sa b0.0.0 ++ (sb b1.0.0 ++ (sc b2.0.0 ++ (sd b3.0.0 ++ se b4.0.0)))) r) (ap (λ (p : Body × List ℕ). p.1) g) c0;
    }

pub five_again : {A : Type 0} {sa : A → List ℕ} {pa : A → Bool} {ra : Reader A} {B : Type 0} {sb : B → List ℕ} {pb : B → Bool} {rb : Reader B} {C : Type 0} {sc : C → List ℕ} {pc : C → Bool} {rc : Reader C} {D : Type 0} {sd : D → List ℕ} {pd : D → Bool} {rd : Reader D} {E : Type 0} {se : E → List ℕ} {pe : E → Bool} {re : Reader E} → Reads A sa pa ra → Reads B sb pb rb → Reads C sc pc rc → Reads D sd pd rd → Reads E se pe re → (f : A → B → C → D → E → Body) (x : A) (y : B) (z : C) (u : D) (v : E) (rest : List ℕ) → pa x ≡ true → pb y ≡ true → pc z ≡ true → pd u ≡ true → pe v ≡ true → (ra ((sa x ++ (sb y ++ (sc z ++ (sd u ++ se v)))) ++ rest) >>= λ q0. rb q0.1 >>= λ q1. rc q1.1 >>= λ q2. rd q2.1 >>= λ q3. re q3.1 >>= λ q4. built (f q0.0 q1.0 q2.0 q3.0 q4.0) q4.1) ≡ Ok (f x y z u v, rest)
five_again {A} {sa} {pa} {ra} {B} {sb} {pb} {rb} {C} {sc} {pc} {rc} {D} {sd} {pd} {rd} {E} {se} {pe} {re} la lb lc ld le f x y z u v rest hx hy hz hu hv =
    let regrouped : (sa x ++ (sb y ++ (sc z ++ (sd u ++ se v)))) ++ rest ≡ sa x ++ (sb y ++ (sc z ++ (sd u ++ (se v ++ rest)))) = simp append_assoc in
    ap (λ (t : List ℕ). ra t >>= λ q0. rb q0.1 >>= λ q1. rc q1.1 >>= λ q2. rd q2.1 >>= λ q3. re q3.1 >>= λ q4. built (f q0.0 q1.0 q2.0 q3.0 q4.0) q4.1) regrouped
    ∙ ap (λ (r : Result (A × List ℕ) ℕ). r >>= λ q0. rb q0.1 >>= λ q1. rc q1.1 >>= λ q2. rd q2.1 >>= λ q3. re q3.1 >>= λ q4. built (f q0.0 q1.0 q2.0 q3.0 q4.0) q4.1) (la.again x (sb y ++ (sc z ++ (sd u ++ (se v ++ rest)))) hx)
    ∙ ap (λ (r : Result (B × List ℕ) ℕ). r >>= λ q1. rc q1.1 >>= λ q2. rd q2.1 >>= λ q3. re q3.1 >>= λ q4. built (f x q1.0 q2.0 q3.0 q4.0) q4.1) (lb.again y (sc z ++ (sd u ++ (se v ++ rest))) hy)
    ∙ ap (λ (r : Result (C × List ℕ) ℕ). r >>= λ q2. rd q2.1 >>= λ q3. re q3.1 >>= λ q4. built (f x y q2.0 q3.0 q4.0) q4.1) (lc.again z (sd u ++ (se v ++ rest)) hz)
    ∙ ap (λ (r : Result (D × List ℕ) ℕ). r >>= λ q3. re q3.1 >>= λ q4. built (f x y z q3.0 q4.0) q4.1) (ld.again u (se v ++ rest) hu)
    ∙ ap (λ (r : Result (E × List ℕ) ℕ). r >>= λ q4. built (f x y z u q4.0) q4.1) (le.again v (rest) hv)
