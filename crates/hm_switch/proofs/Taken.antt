-- A view goes on by one record.
use Rattle.std.proofs.Common.{◌≡◌, ℕ, max, cond, leb, ◌&&◌, List, ◌∷◌, Option, refl, sym, ap, subst, ◌∙◌, arith}
use Rattle.boki_types.specs.declared.body.Body.{Body}
use Rattle.boki_types.specs.declared.body.Body.TheVariants as b
use Rattle.boki_model.specs.Live.{Live}
use Rattle.boki_model.specs.Modes.{all_ended}
use Rattle.boki_model.specs.Floor.{floor, counted_trim}
use Rattle.log_folds.specs.Opens.{open_invocations}
use Rattle.log_folds.proofs.Opens.{are_kept}
use Rattle.lb_base.specs.declared.value.Mode.{Mode}
use Rattle.hm_switch.specs.declared.marks.Mark.{Mark}
use Rattle.hm_switch.specs.declared.marks.Mark.TheVariants as m
use Rattle.hm_switch.specs.declared.phase.Phase.{Phase}
use Rattle.hm_switch.specs.declared.change.Pending.{Pending}
use Rattle.hm_switch.specs.declared.change.Change.{Change}
use Rattle.hm_switch.specs.Marks.{Comes}
use Rattle.hm_switch.specs.Lives.{AreLives, GoOn}
use Rattle.hm_switch.specs.Modes.{ModesGoOn, ModesEnd}
use Rattle.hm_switch.specs.SwitchStates.{SwitchState, IsFoldOf, Takes}
use Rattle.hm_switch.proofs.Says.{counted_by, counts_by}
use Rattle.hm_switch.proofs.GoesOn.{still}
use Rattle.hm_switch.proofs.ModesGo.{unchanged}

swapped : (x y : ℕ) → max x y ≡ max y x
swapped x y = omega arith

-- the greater of 0 and a number
none_counted : (x y : ℕ) → x ≡ y → x ≡ max 0 y
none_counted x y e = omega arith

module _ (seq : ℕ) (old : SwitchState) where
  pub takes_init : (p : List ℕ) (phases : List (List ℕ × Phase)) (opened : List (ℕ × List ℕ)) → GoOn seq (m.Init p) old.phases old.opened phases opened
      → Takes seq (m.Init p) old (record old { position = seq; phases = phases; opened = opened })
  takes_init p phases opened goes = record {
    first_stays = refl;
    position_is = refl;
    folds = λ x records comes fold. record {
      lives = goes x records comes fold.lives;
      modes = unchanged seq (m.Init p) old.first x records comes old.current old.pending old.changes fold.modes refl;
      bound_is = none_counted old.bound (floor records) fold.bound_is ∙ sym (counts_by x records (m.Init p) comes.says);
    };
  }

  pub takes_finish : (p : List ℕ) (phases : List (List ℕ × Phase)) (opened : List (ℕ × List ℕ)) → GoOn seq (m.Finish p) old.phases old.opened phases opened
      → Takes seq (m.Finish p) old (record old { position = seq; phases = phases; opened = opened })
  takes_finish p phases opened goes = record {
    first_stays = refl;
    position_is = refl;
    folds = λ x records comes fold. record {
      lives = goes x records comes fold.lives;
      modes = unchanged seq (m.Finish p) old.first x records comes old.current old.pending old.changes fold.modes refl;
      bound_is = none_counted old.bound (floor records) fold.bound_is ∙ sym (counts_by x records (m.Finish p) comes.says);
    };
  }

  pub takes_begin : (target current : Mode) (pending : Option Pending) (changes : List Change) → ModesGoOn seq (m.SwitchBegin target) old.current old.pending old.changes current pending changes
      → Takes seq (m.SwitchBegin target) old (record old { position = seq; current = current; pending = pending; changes = changes })
  takes_begin target current pending changes goes = record {
    first_stays = refl;
    position_is = refl;
    folds = λ x records comes fold. record {
      lives = still seq x records old.phases old.opened fold.lives (m.SwitchBegin target) comes (λ q. refl) refl;
      modes = goes old.first x records comes fold.modes;
      bound_is = none_counted old.bound (floor records) fold.bound_is ∙ sym (counts_by x records (m.SwitchBegin target) comes.says);
    };
  }

  pub takes_end : (current : Mode) (pending : Option Pending) (changes : List Change) → ModesEnd seq old.phases old.opened old.current old.pending old.changes current pending changes
      → Takes seq m.SwitchEnd old (record old { position = seq; current = current; pending = pending; changes = changes })
  takes_end current pending changes goes = record {
    first_stays = refl;
    position_is = refl;
    folds = λ x records comes fold. record {
      lives = still seq x records old.phases old.opened fold.lives m.SwitchEnd comes (λ q. refl) refl;
      modes = goes old.first x records comes fold.lives fold.modes;
      bound_is = none_counted old.bound (floor records) fold.bound_is ∙ sym (counts_by x records m.SwitchEnd comes.says);
    };
  }

  -- what a Trim counts
  counted_is : (w : ℕ) (x : Live Body) (records : List (Live Body)) → Comes seq (m.Trim w) x records → counted_trim (b.Trim w) seq records ≡ counted_by (m.Trim w) x.seq (open_invocations records)
  counted_is w x records comes =
      ap (λ n. cond (leb w n && all_ended w records) w 0) (sym comes.seqnum)
      ∙ ap (λ t. cond (leb w x.seq && t) w 0) ((are_kept records).ended w)

  pub takes_trim : (w counted bound : ℕ) → ((records : List (Live Body)) → AreLives records old.phases old.opened → counted ≡ counted_trim (b.Trim w) seq records) → bound ≡ max old.bound counted
      → Takes seq (m.Trim w) old (record old { position = seq; bound = bound })
  takes_trim w counted bound counts is = record {
    first_stays = refl;
    position_is = refl;
    folds = λ x records comes fold. record {
      lives = still seq x records old.phases old.opened fold.lives (m.Trim w) comes (λ q. refl) refl;
      modes = unchanged seq (m.Trim w) old.first x records comes old.current old.pending old.changes fold.modes refl;
      bound_is =
          is
          ∙ swapped old.bound counted
          ∙ ap (λ n. max n old.bound) (counts records fold.lives ∙ counted_is w x records comes)
          ∙ ap (max (counted_by (m.Trim w) x.seq (open_invocations records))) fold.bound_is
          ∙ sym (counts_by x records (m.Trim w) comes.says);
    };
  }

  -- a record that says nothing
  pub fold_stays : (x : Live Body) (records : List (Live Body)) → Comes seq m.Other x records → IsFoldOf records old → IsFoldOf (x ∷ records) old
  fold_stays x records comes fold = record {
    lives = still seq x records old.phases old.opened fold.lives m.Other comes (λ q. refl) refl;
    modes = unchanged seq m.Other old.first x records comes old.current old.pending old.changes fold.modes refl;
    bound_is = none_counted old.bound (floor records) fold.bound_is ∙ sym (counts_by x records m.Other comes.says);
  }

  pub takes_other : Takes seq m.Other old (record old { position = seq })
  takes_other = record {
    first_stays = refl;
    position_is = refl;
    folds = λ x records comes fold. (let f = fold_stays x records comes fold in record { lives = f.lives; modes = f.modes; bound_is = f.bound_is });
  }

pub from_view : (seq : ℕ) (mark : Mark) (a s new : SwitchState) → a ≡ s → Takes seq mark a new → Takes seq mark s new
from_view seq mark a s new same takes = subst (λ o. Takes seq mark o new) same takes
