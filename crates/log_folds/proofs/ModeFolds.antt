-- The modes, by the tags of switches and of lives.
use Rattle.std.proofs.Common.{◌≡◌, ℕ, suc, ◌-◌, ◌≤◌, Bool, true, false, cond, ◌||◌, List, [], ◌∷◌, Option, Some, None, refl, sym, ap, ◌∙◌, arith}
use Rattle.lb_base.specs.declared.value.Mode.{Mode}
use Rattle.boki_types.specs.declared.body.Body.{Body}
use Rattle.boki_types.specs.declared.body.Body.TheVariants as b
use Rattle.boki_model.specs.Live.{Live, has_tag, count, upto}
use Rattle.boki_model.specs.LogLaws.{FallBelow}
use Rattle.boki_model.specs.Bodies.{life_tag}
use Rattle.boki_model.specs.Modes.{Modes, Switch, all_ended, end_switch, apply_to_modes, modes, effective_mode}
use Rattle.boki_model.proofs.Logs.{upto_skip, upto_all, upto-upto}
use Rattle.boki_machine.specs.Decided.{oldest}
use Rattle.log_folds.specs.ByTag.{with_tag, with_either_tag}
use Rattle.log_folds.specs.Own.{switch_tag, HaveOwnTags}
use Rattle.log_folds.specs.Folds.{modes_in, ModesByTags}
use Rattle.log_folds.proofs.UpTo.{upto_falls}
use Rattle.log_folds.proofs.ByTag.{having_falls, tagged_up_to}
use Rattle.log_folds.proofs.Own.{says, own_stay}
use Rattle.log_folds.proofs.Lives.{ended_by_either}

ends_alike :
    (past others : List (Live Body)) → ((b : ℕ) → all_ended b past ≡ all_ended b others)
    → (m : Modes) (o : Option Switch) → end_switch past m o ≡ end_switch others m o
ends_alike past others same m None = refl
ends_alike past others same m (Some s) = ap (λ t. cond t (record { current = s.target; pending = None }) m) (same s.begun)

switched_alike :
    (body : Body) (seq : ℕ) (past others : List (Live Body))
    → ((b : ℕ) → all_ended b past ≡ all_ended b others) → (m : Modes)
    → apply_to_modes body seq past m ≡ apply_to_modes body seq others m
switched_alike b.SwitchEnd seq past others same m = ends_alike past others same m m.pending
switched_alike _ seq past others same m = refl

module _ (first : Mode) where
  modes_by_either :
      (records : List (Live Body)) → HaveOwnTags records
      → modes first records ≡ modes first (with_either_tag switch_tag life_tag records)
  modes_by_either [] own = refl
  modes_by_either (x ∷ xs) own = at (has_tag switch_tag x.tags) refl (has_tag life_tag x.tags) (modes_by_either xs own.1)
    where
      kept : List (Live Body)
      kept = with_either_tag switch_tag life_tag xs

      with_it :
          modes first xs ≡ modes first kept
          → apply_to_modes x.holds x.seq xs (modes first xs) ≡ apply_to_modes x.holds x.seq kept (modes first kept)
      with_it ih = switched_alike x.holds x.seq xs kept (λ b. ended_by_either switch_tag b xs own.1) (modes first xs) ∙ ap (apply_to_modes x.holds x.seq kept) ih

      at :
          (s : Bool) → has_tag switch_tag x.tags ≡ s → (l : Bool) → modes first xs ≡ modes first kept
          → apply_to_modes x.holds x.seq xs (modes first xs) ≡ modes first (cond (s || l) (x ∷ kept) kept)
      at true e l ih = with_it ih
      at false e true ih = with_it ih
      at false e false ih = (says x own.0).switch e x.seq xs (modes first xs) ∙ ih

  -- one by one, behind each switch
  modes_less :
      (y : Live Body) (records : List (Live Body)) (end : ℕ) (xs : List (Live Body)) → FallBelow end xs
      → end ≤ y.seq → modes_in first (y ∷ records) xs ≡ modes_in first records xs
  modes_less y records end [] fall le = refl
  modes_less y records end (x ∷ xs) fall le =
      ap (λ past. apply_to_modes x.holds x.seq past (modes_in first (y ∷ records) xs)) (upto_skip (x.seq - 1) y records (let lt = fall.1 in let low = fall.0 in omega arith))
      ∙ ap (apply_to_modes x.holds x.seq (upto (x.seq - 1) records)) (modes_less y records x.seq xs fall.2 (let lt = fall.1 in omega arith))

  behind_all :
      (end : ℕ) (x : Live Body) (xs : List (Live Body)) → FallBelow end (x ∷ xs)
      → upto (x.seq - 1) (x ∷ xs) ≡ xs
  behind_all end x xs fall = upto_skip (x.seq - 1) x xs (let low = fall.0 in omega arith) ∙ upto_all x.seq (x.seq - 1) xs fall.2 (let low = fall.0 in omega arith)

  pub modes_one_by_one :
      (end : ℕ) (records : List (Live Body)) → FallBelow end records → HaveOwnTags records
      → modes first records ≡ modes_in first records (with_tag switch_tag records)
  modes_one_by_one end [] fall own = refl
  modes_one_by_one end (x ∷ xs) fall own = at (has_tag switch_tag x.tags) refl (modes_one_by_one x.seq xs fall.2 own.1)
    where
      switches : List (Live Body)
      switches = with_tag switch_tag xs

      less : modes_in first (x ∷ xs) switches ≡ modes_in first xs switches
      less = modes_less x xs x.seq switches (having_falls switch_tag x.seq xs fall.2) (omega arith)

      at :
          (b : Bool) → has_tag switch_tag x.tags ≡ b → modes first xs ≡ modes_in first xs switches
          → apply_to_modes x.holds x.seq xs (modes first xs)
          ≡ modes_in first (x ∷ xs) (cond b (x ∷ switches) switches)
      at true e ih =
          ap (apply_to_modes x.holds x.seq xs) (ih ∙ sym less)
          ∙ ap (λ past. apply_to_modes x.holds x.seq past (modes_in first (x ∷ xs) switches)) (sym (behind_all end x xs fall))
      at false e ih = (says x own.0).switch e x.seq xs (modes first xs) ∙ ih ∙ sym less

  -- up to a position
  modes_within :
      (p end : ℕ) (records : List (Live Body)) → FallBelow end records → (xs : List (Live Body)) (top : ℕ)
      → FallBelow top xs → top ≤ suc p → modes_in first (upto p records) xs ≡ modes_in first records xs
  modes_within p end records fall [] top low le = refl
  modes_within p end records fall (x ∷ xs) top low le =
      ap (λ past. apply_to_modes x.holds x.seq past (modes_in first (upto p records) xs)) (upto-upto (x.seq - 1) p records (let lt = low.1 in omega arith))
      ∙ ap (apply_to_modes x.holds x.seq (upto (x.seq - 1) records)) (modes_within p end records fall xs x.seq low.2 (let lt = low.1 in omega arith))

  pub modes_up_to : (end p : ℕ) (records : List (Live Body)) → FallBelow end records → HaveOwnTags records
      → modes first (upto p records) ≡ modes_in first records (oldest (count switch_tag (upto p records)) (with_tag switch_tag records))
  modes_up_to end p records fall own =
      let falls = upto_falls p end records fall in
      modes_one_by_one (suc p) (upto p records) falls ((own_stay records own).seen p)
      ∙ modes_within p end records fall (with_tag switch_tag (upto p records)) (suc p) (having_falls switch_tag (suc p) (upto p records) falls) (omega arith)
      ∙ ap (modes_in first records) ((tagged_up_to end switch_tag records fall).front p)

  -- without a switch
  no_switch :
      (records : List (Live Body)) → HaveOwnTags records → count switch_tag records ≡ 0
      → modes first records ≡ record { current = first; pending = None }
  no_switch [] own none = refl
  no_switch (x ∷ xs) own none = at (has_tag switch_tag x.tags) refl (no_switch xs own.1) none
    where
      at :
          (b : Bool) → has_tag switch_tag x.tags ≡ b
          → (count switch_tag xs ≡ 0 → modes first xs ≡ record { current = first; pending = None })
          → cond b (suc (count switch_tag xs)) (count switch_tag xs) ≡ 0
          → apply_to_modes x.holds x.seq xs (modes first xs) ≡ record { current = first; pending = None }
      at true e ih none = absurd (let h : ⊥ = omega arith in h)
      at false e ih none = (says x own.0).switch e x.seq xs (modes first xs) ∙ ih none

  pub modes_by_tags : (records : List (Live Body)) → HaveOwnTags records → ModesByTags first records
  modes_by_tags records own = record {
    modes = modes_by_either records own;
    mode = ap (λ (m : Modes). effective_mode m.pending m.current) (modes_by_either records own);
    none = λ e. ap (λ (m : Modes). effective_mode m.pending m.current) (no_switch records own e);
  }
