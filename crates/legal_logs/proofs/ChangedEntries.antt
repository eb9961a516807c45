-- One record of the whole list holds something else.
use Rattle.std.proofs.Common.{◌≡◌, ℕ, suc, Bool, true, false, cond, List, [], ◌∷◌, ◌++◌, length, Option, Some, None, refl, sym, ap, ◌∙◌}
use Rattle.std.specs.Prelude.{◌==◌}
use Rattle.lb_base.specs.declared.value.Cond.{Cond}
use Rattle.boki_types.specs.declared.body.Body.{Body}
use Rattle.boki_model.specs.Live.{LogRecord, Live, has_tag, count, meets_condition, append_if_live, live}
use Rattle.legal_logs.specs.Legal.{legal}
use Rattle.legal_logs.specs.Changes.{holds_instead, with_body, ChangedEntriesAreRefused}
use Rattle.legal_logs.proofs.Changed.{changes_are_refused}

module _ (r : LogRecord Body) (body : Body) (older : List (LogRecord Body)) where
  -- the record, as a live one
  abbrev at_its_place : Live Body
  at_its_place = record { seq = suc (length older); tags = r.tags; holds = r.holds }

  -- the same live records stand above it
  record Beside (newer : List (LogRecord Body)) : Type 0 where
    pub above : List (Live Body)
    pub was : live (newer ++ r ∷ older) ≡ above ++ at_its_place ∷ live older
    pub becomes : live (newer ++ with_body r body ∷ older) ≡ above ++ holds_instead at_its_place body ∷ live older

  as_long : (newer : List (LogRecord Body)) → length (newer ++ with_body r body ∷ older) ≡ length (newer ++ r ∷ older)
  as_long [] = refl
  as_long (n ∷ newer) = ap suc (as_long newer)

  as_many : (tag : ℕ) (above : List (Live Body)) → count tag (above ++ holds_instead at_its_place body ∷ live older) ≡ count tag (above ++ at_its_place ∷ live older)
  as_many tag [] = refl
  as_many tag (x ∷ above) = ap (λ n. cond (has_tag tag x.tags) (suc n) n) (as_many tag above)

  meets_too : (condition : Option Cond) (above : List (Live Body)) → meets_condition condition (above ++ holds_instead at_its_place body ∷ live older) ≡ meets_condition condition (above ++ at_its_place ∷ live older)
  meets_too None above = refl
  meets_too (Some c) above = ap (λ n. c.place == n) (as_many c.tag.0 above)

  one_more : (n : LogRecord Body) (newer : List (LogRecord Body)) → Beside newer → Beside (n ∷ newer)
  one_more n newer rest = at (meets_condition n.condition (rest.above ++ at_its_place ∷ live older)) refl
    where
      at : (t : Bool) → meets_condition n.condition (rest.above ++ at_its_place ∷ live older) ≡ t → Beside (n ∷ newer)
      at true e = record {
        above = record { seq = suc (length (newer ++ r ∷ older)); tags = n.tags; holds = n.holds } ∷ rest.above;
        was = ap (append_if_live (suc (length (newer ++ r ∷ older))) n) rest.was ∙ taken (suc (length (newer ++ r ∷ older))) (rest.above ++ at_its_place ∷ live older) e;
        becomes =
            (λ i. append_if_live (suc (as_long newer i)) n (rest.becomes i))
            ∙ taken (suc (length (newer ++ r ∷ older))) (rest.above ++ holds_instead at_its_place body ∷ live older) (meets_too n.condition rest.above ∙ e);
      }
        where
          taken : (seq : ℕ) (past : List (Live Body)) → meets_condition n.condition past ≡ true → append_if_live seq n past ≡ record { seq = seq; tags = n.tags; holds = n.holds } ∷ past
          taken seq past e = ap (λ b. cond b (record { seq = seq; tags = n.tags; holds = n.holds } ∷ past) past) e
      at false e = record {
        above = rest.above;
        was = ap (append_if_live (suc (length (newer ++ r ∷ older))) n) rest.was ∙ left (suc (length (newer ++ r ∷ older))) (rest.above ++ at_its_place ∷ live older) e;
        becomes =
            (λ i. append_if_live (suc (as_long newer i)) n (rest.becomes i))
            ∙ left (suc (length (newer ++ r ∷ older))) (rest.above ++ holds_instead at_its_place body ∷ live older) (meets_too n.condition rest.above ∙ e);
      }
        where
          left : (seq : ℕ) (past : List (Live Body)) → meets_condition n.condition past ≡ false → append_if_live seq n past ≡ past
          left seq past e = ap (λ b. cond b (record { seq = seq; tags = n.tags; holds = n.holds } ∷ past) past) e

  beside : meets_condition r.condition (live older) ≡ true → (newer : List (LogRecord Body)) → Beside newer
  beside is [] = record {
    above = [];
    was = ap (λ b. cond b (at_its_place ∷ live older) (live older)) is;
    becomes = ap (λ b. cond b (holds_instead at_its_place body ∷ live older) (live older)) is;
  }
  beside is (n ∷ newer) = one_more n newer (beside is newer)

pub changed_entries_are_refused : ChangedEntriesAreRefused
changed_entries_are_refused fs first objects newer older r body state e is_live was becomes step other =
    let b : Beside r body older newer = beside r body older is_live newer in
    ap (legal fs first objects) b.becomes
    ∙ changes_are_refused fs first objects b.above (live older) (at_its_place r body older) body state (sym (ap (legal fs first objects) b.was) ∙ e) was becomes step other
