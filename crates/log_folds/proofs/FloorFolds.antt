-- The floor, by the tags of trims and of lives.
use Rattle.std.proofs.Common.{◌≡◌, ℕ, suc, ◌-◌, ◌≤◌, max, Bool, true, false, cond, leb, ◌&&◌, ◌||◌, List, [], ◌∷◌, refl, sym, ap, ◌∙◌, arith}
use Rattle.boki_types.specs.declared.body.Body.{Body}
use Rattle.boki_types.specs.declared.body.Body.TheVariants as b
use Rattle.boki_model.specs.Live.{Live, has_tag, count, upto}
use Rattle.boki_model.specs.LogLaws.{FallBelow}
use Rattle.boki_model.specs.Bodies.{life_tag}
use Rattle.boki_model.specs.Modes.{all_ended}
use Rattle.boki_model.specs.Floor.{counted_trim, floor}
use Rattle.boki_model.proofs.Logs.{upto_skip, upto_all, upto-upto}
use Rattle.boki_machine.specs.Decided.{oldest}
use Rattle.log_folds.specs.ByTag.{with_tag, with_either_tag}
use Rattle.log_folds.specs.Own.{trim_tag, HaveOwnTags}
use Rattle.log_folds.specs.Folds.{floor_in}
use Rattle.log_folds.proofs.UpTo.{upto_falls}
use Rattle.log_folds.proofs.ByTag.{having_falls, tagged_up_to}
use Rattle.log_folds.proofs.Own.{says, own_stay}
use Rattle.log_folds.proofs.Basics.{none_more}
use Rattle.log_folds.proofs.Lives.{ended_by_either}

counted_alike :
    (body : Body) (seq : ℕ) (past others : List (Live Body))
    → ((b : ℕ) → all_ended b past ≡ all_ended b others) → counted_trim body seq past ≡ counted_trim body seq others
counted_alike (b.Trim w) seq past others same = ap (λ t. cond (leb w seq && t) w 0) (same w)
counted_alike _ seq past others same = refl

pub floors_by_tags :
    (records : List (Live Body)) → HaveOwnTags records
    → floor records ≡ floor (with_either_tag trim_tag life_tag records)
floors_by_tags [] own = refl
floors_by_tags (x ∷ xs) own = at (has_tag trim_tag x.tags) refl (has_tag life_tag x.tags) (floors_by_tags xs own.1)
  where
    kept : List (Live Body)
    kept = with_either_tag trim_tag life_tag xs

    with_it :
        floor xs ≡ floor kept
        → max (counted_trim x.holds x.seq xs) (floor xs) ≡ max (counted_trim x.holds x.seq kept) (floor kept)
    with_it ih = ap (λ n. max n (floor xs)) (counted_alike x.holds x.seq xs kept (λ b. ended_by_either trim_tag b xs own.1)) ∙ ap (max (counted_trim x.holds x.seq kept)) ih

    at :
        (s : Bool) → has_tag trim_tag x.tags ≡ s → (l : Bool) → floor xs ≡ floor kept
        → max (counted_trim x.holds x.seq xs) (floor xs) ≡ floor (cond (s || l) (x ∷ kept) kept)
    at true e l ih = with_it ih
    at false e true ih = with_it ih
    at false e false ih = none_more (counted_trim x.holds x.seq xs) (floor xs) ((says x own.0).trim e x.seq xs) ∙ ih

floor_less :
    (y : Live Body) (records : List (Live Body)) (end : ℕ) (xs : List (Live Body)) → FallBelow end xs
    → end ≤ y.seq → floor_in (y ∷ records) xs ≡ floor_in records xs
floor_less y records end [] fall le = refl
floor_less y records end (x ∷ xs) fall le =
    ap (λ past. max (counted_trim x.holds x.seq past) (floor_in (y ∷ records) xs)) (upto_skip (x.seq - 1) y records (let lt = fall.1 in let low = fall.0 in omega arith))
    ∙ ap (max (counted_trim x.holds x.seq (upto (x.seq - 1) records))) (floor_less y records x.seq xs fall.2 (let lt = fall.1 in omega arith))

pub floors_one_by_one :
    (end : ℕ) (records : List (Live Body)) → FallBelow end records → HaveOwnTags records
    → floor records ≡ floor_in records (with_tag trim_tag records)
floors_one_by_one end [] fall own = refl
floors_one_by_one end (x ∷ xs) fall own = at (has_tag trim_tag x.tags) refl (floors_one_by_one x.seq xs fall.2 own.1)
  where
    trims : List (Live Body)
    trims = with_tag trim_tag xs

    less : floor_in (x ∷ xs) trims ≡ floor_in xs trims
    less = floor_less x xs x.seq trims (having_falls trim_tag x.seq xs fall.2) (omega arith)

    behind : upto (x.seq - 1) (x ∷ xs) ≡ xs
    behind = upto_skip (x.seq - 1) x xs (let low = fall.0 in omega arith) ∙ upto_all x.seq (x.seq - 1) xs fall.2 (let low = fall.0 in omega arith)

    at :
        (b : Bool) → has_tag trim_tag x.tags ≡ b → floor xs ≡ floor_in xs trims
        → max (counted_trim x.holds x.seq xs) (floor xs) ≡ floor_in (x ∷ xs) (cond b (x ∷ trims) trims)
    at true e ih =
        ap (max (counted_trim x.holds x.seq xs)) (ih ∙ sym less)
        ∙ ap (λ past. max (counted_trim x.holds x.seq past) (floor_in (x ∷ xs) trims)) (sym behind)
    at false e ih = none_more (counted_trim x.holds x.seq xs) (floor xs) ((says x own.0).trim e x.seq xs) ∙ ih ∙ sym less

floor_within :
    (p end : ℕ) (records : List (Live Body)) → FallBelow end records → (xs : List (Live Body)) (top : ℕ)
    → FallBelow top xs → top ≤ suc p → floor_in (upto p records) xs ≡ floor_in records xs
floor_within p end records fall [] top low le = refl
floor_within p end records fall (x ∷ xs) top low le =
    ap (λ past. max (counted_trim x.holds x.seq past) (floor_in (upto p records) xs)) (upto-upto (x.seq - 1) p records (let lt = low.1 in omega arith))
    ∙ ap (max (counted_trim x.holds x.seq (upto (x.seq - 1) records))) (floor_within p end records fall xs x.seq low.2 (let lt = low.1 in omega arith))

pub floors_up_to : (end p : ℕ) (records : List (Live Body)) → FallBelow end records → HaveOwnTags records
    → floor (upto p records) ≡ floor_in records (oldest (count trim_tag (upto p records)) (with_tag trim_tag records))
floors_up_to end p records fall own =
    let falls = upto_falls p end records fall in
    floors_one_by_one (suc p) (upto p records) falls ((own_stay records own).seen p)
    ∙ floor_within p end records fall (with_tag trim_tag (upto p records)) (suc p) (having_falls trim_tag (suc p) (upto p records) falls) (omega arith)
    ∙ ap (floor_in records) ((tagged_up_to end trim_tag records fall).front p)
