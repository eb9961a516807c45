use Rattle.std.proofs.Common.{◌≡◌, ◌<◌, ◌++◌, ◌∷◌, [], List, ℕ, Bool, true, false, not, length, refl, sym, ap, ◌∙◌, arith}
use Rattle.lb_base.specs.declared.value.Value.{Value}
use Rattle.script_lang.specs.Names.{is_among}
use Rattle.plan_lang.proofs.ObjectLemmas.{names_to, names_more, fault_later, among_more}
use Rattle.plan_lang.proofs.naming.first_object_fault.Goals as goal

was_absent : (b d : Bool) → b ≡ not d → b ≡ true → d ≡ false
was_absent b true e f = cc
was_absent b false e f = refl

pub objects-preserved : goal.objects-preserved
objects-preserved c =
    let objects = c.args.objects.now in
    let i = c.objects.i in
    let o = c.index-objects-i.result in
    let h : c.objects.i < length c.args.objects.now = omega arith in
    let names = names_to c.objects.i c.args.objects.now in
    let no = was_absent _ _ c.in_ok-added.ensures.added c.if-not-added.false in
    let e : c.as_str-name.result.now ≡ c.index-objects-i.result.0 = c.as_str-name.ensures ∙ ap (λ (p : List ℕ × Value). p.0) (sym c.index-objects-i.is) in
    let among : is_among (names_to c.objects.i c.args.objects.now) c.index-objects-i.result.0 ≡ false =
    ap (is_among (names_to c.objects.i c.args.objects.now)) (sym e) ∙ sym (c.objects.invariant.1 c.as_str-name.result) ∙ no in (
      sym (fault_later objects c.args.lines.now i o h c.index-objects-i.is among) ∙ c.objects.invariant.0,
      λ q.
          among_more names c.as_str-name.result.now q.now _ _ (c.in_ok-added.ensures.updates.0 q) (c.objects.invariant.1 q)
          ∙ ap (λ (k : List ℕ). is_among (names_to c.objects.i c.args.objects.now ++ k ∷ []) q.now) e
          ∙ ap (λ (ns : List (List ℕ)). is_among ns q.now) (sym (names_more objects i o h c.index-objects-i.is)),
    )
