use Rattle.std.proofs.Common.{rules, ◌≤◌, ◌≡◌, ◌≢◌, ◌+◌, ◌++◌, ◌∷◌, [], ℕ, List, refl, ◌∙◌, subst}
use Rattle.live_log.specs.AppendCounts.{total_at, number_of}
use Rattle.live_log.proofs.AppendRights.{number_range}
use Rattle.live_log.specs.Appended.{Appended}
use Rattle.live_log.proofs.Engines.{counts_more}
use Rattle.live_log.proofs.ClosedList.{each_by_more}
use Rattle.live_log.proofs.sequencer.Sequencer.append.Goals as goal

pub invariant_of-self-2 : goal.invariant_of-self-2
invariant_of-self-2 g c =
    let i = c.self.invariant in
    let a = c.add.ensures in
    let who : number_of c.args.own.now.right ≡ c.args.who = c.requires.right.1 in
    let xs : List Appended = c.self.inside.hall.log in
    let x : Appended = (c.args.who, c.args.rec) in
    let shown : c.publish.new.self.log ≡ xs ++ x ∷ [] = search rules in
    let one : total_at c.add.new.self c.args.who ≡ total_at c.self.inside.counts c.args.who + 1 = subst (λ (n : ℕ). total_at c.add.new.self n ≡ total_at c.self.inside.counts n + 1) who a.counted in
    let others = λ (n : ℕ) (ne : n ≢ c.args.who). a.others n (λ e. ne (e ∙ who)) in
    (search rules, (λ n low high. rw shown (counts_more (λ n. total_at c.self.inside.counts n) (λ n. total_at c.add.new.self n) c.args.who xs x refl one others i.1 n low high)), rw shown (each_by_more g.J.Naming.engines xs x i.2 (subst (λ (n : ℕ). 1 ≤ n) who (number_range c.args.own.now.right).0) c.requires.right.2))
