use Rattle.std.proofs.Common.{◌≡◌, max, rules}
use Rattle.hm_switch.specs.declared.marks.Mark.TheVariants as said
use Rattle.hm_switch.proofs.Taken.{takes_trim, from_view}
use Rattle.hm_switch.proofs.view.SwitchView.take_trim.Goals as goal

pub returns : goal.returns
returns c =
    let most : c.max-self-inside.result ≡ max c.self.inside.floor c.counted-counted.result = search rules in
    from_view c.args.seq (said.Trim c.args.bound) _ _ _ c.self.view_is
    (takes_trim c.args.seq _ c.args.bound c.counted-counted.result c.max-self-inside.result c.counted-counted.ensures most)
