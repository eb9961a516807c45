-- When a store is kept.
use Rattle.std.proofs.Common.{◌∙◌}
use Rattle.machine_laws.proofs.Kept.{holding_keeps_writes}
use Rattle.hm_read.specs.Laws.{UnchangedStands, UnchangedIsKept, HoldingIsKept}

pub unchanged_stands : UnchangedStands
unchanged_stands old new m records same stands = record {
  floor = same.floor ∙ stands.floor;
  objects = λ key. same.objects key ∙ stands.objects key;
  named = λ name. same.named name ∙ stands.named name;
  sound = same.sound stands.sound;
  numbered = stands.numbered;
  differ = stands.differ;
  valued = stands.valued;
  end = stands.end;
  falls = stands.falls;
}

pub unchanged_is_kept : UnchangedIsKept
unchanged_is_kept old new m records same kept =
    record { stands = unchanged_stands old new m records same kept.stands; values = kept.values }

pub holding_is_kept : HoldingIsKept
holding_is_kept setup fs m kept holds stands =
    record { stands = stands; values = (holding_keeps_writes setup fs m holds).whole }
