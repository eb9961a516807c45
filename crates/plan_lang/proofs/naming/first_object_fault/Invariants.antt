use Rattle.std.proofs.Common.{◌≡◌, List, ℕ, [], drop, bytes_eq}
use denote.Ref.{Bor}
use Rattle.std.specs.HashSet.{contains}
use Rattle.script_lang.specs.Names.{is_among}
use Rattle.plan_lang.specs.Heads.{objects_fault}
use Rattle.plan_lang.proofs.ObjectLemmas.{names_to}
use Rattle.plan_lang.proofs.naming.first_object_fault.Given as goal

abbrev pub invariant-objects : goal.invariant-objects
invariant-objects l =
    (objects_fault (names_to l.i l.objects) (drop l.i l.objects) l.lines l.i ≡ objects_fault [] l.objects l.lines 0)
    × ((q : Bor (List ℕ)) → contains (λ x y. bytes_eq x.now y.now) l.seen q ≡ is_among (names_to l.i l.objects) q.now)
