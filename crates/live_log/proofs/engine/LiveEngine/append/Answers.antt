use Rattle.std.proofs.Common.{◌≡◌, ◌++◌, ◌∷◌, [], ◌∙◌, ap, sym, refl, rules, List, length}
use Rattle.live_log.specs.AppendCounts.{count_of}
use Rattle.live_log.specs.Appended.{Appended}
use Rattle.live_log.specs.WriterAndReader.{PlaceView}
use Rattle.live_log.specs.Engines.{appends_at}
use Rattle.live_log.proofs.Engines.{own_appended, appends_at_own, ok_so}
use Rattle.live_log.proofs.engine.LiveEngine.append.Goals as goal

pub invariant_of-self-2 : goal.invariant_of-self-2
invariant_of-self-2 g c =
    let i = c.self.invariant in
    let e = c.append.ensures in
    let items = c.in_ok-reserve.ensures.items in
    let before = rw (← items) at i.1 in
    (e.book ∙ i.0, own_appended _ _ _ _ _ _ _ before c.append.result _ c.self.inside.place c.append.new.place c.args.sequencer.now c.append.new.self c.args.rec _ _ _ refl refl e.ok e.err (λ p. (ap (λ o. o.indexes.items) p.1, ap (λ o. count_of o.right) p.1, p.2)) (e.right.0 ∙ sym i.1.sound.one_part), e.right.1, i.3, i.4)

pub returns-clause-ok : goal.returns-clause-ok
returns-clause-ok g c =
    let i = c.self.invariant in
    let list : List Appended = c.args.sequencer.now in
    let x : Appended = (c.self.inside.number, c.args.rec) in
    let before = c.self.inside.own.indexes.items in
    let indexes = c.append.new.own.indexes.items in
    ok_so c.append.result (λ n ok.
    let known : c.append.new.place.known ≡ list ++ x ∷ [] = ap (λ (p : PlaceView). p.known) ok.3 ∙ ok.0 in
    let longer : indexes ≡ before ++ length list ∷ [] = ok.4 ∙ ap (λ m. m ++ length list ∷ []) c.in_ok-reserve.ensures.items in
    let own : appends_at c.append.new.place.known indexes ≡ appends_at c.self.inside.place.known before ++ (length list, x) ∷ [] = ap (λ l. appends_at l indexes) known ∙ ap (λ m. appends_at (list ++ x ∷ []) m) longer ∙ appends_at_own c.self.inside.place.known list before x i.1.placed ok.2 in
    search (rules, own)) c.append.ensures.ok
