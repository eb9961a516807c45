-- A view goes on over the records that an engine sees.
use Rattle.std.proofs.Common.{◌≡◌, ◌⊎◌, inl, inr, ℕ, suc, ◌-◌, ◌<◌, ◌≤◌, min, Bool, true, false, cond, ◌||◌, List, [], ◌∷◌, length, Option, Some, None, option_map, refl, sym, ap, subst, ◌∙◌, arith}
use Rattle.std.specs.List.{AllByRecursion}
use Rattle.std.specs.Option.{option_map_or}
use Rattle.std.proofs.lemmas.Bool.{cases_lt, or_right, both_ways}
use Rattle.lb_base.specs.declared.value.Record.{Record}
use Rattle.lb_base.specs.declared.value.Mode.{Mode}
use Rattle.lb_base.specs.declared.value.Tag.{Tag}
use Rattle.boki_types.specs.declared.body.Body.{Body}
use Rattle.boki_types.specs.declared.body.Body.TheVariants as b
use Rattle.boki_model.specs.Live.{LogRecord, Live, has_tag, upto, is_live}
use Rattle.boki_model.specs.LogLaws.{FallBelow}
use Rattle.boki_model.specs.Order.{order, at_seq}
use Rattle.boki_model.specs.Bodies.{life_tag, tag_of, path_number, tags_of}
use Rattle.boki_model.specs.Writes.{prepend_some}
use Rattle.boki_model.proofs.Logs.{live_falls, upto_here, upto_skip, upto_all}
use Rattle.exactly_once.specs.FurtherLaws.StepRecords.{OwnTags, IsWellFormedLive}
use Rattle.log_folds.specs.Own.{switch_tag, trim_tag}
use Rattle.log_folds.proofs.Own.{second_has}
use Rattle.log_folds.specs.Bounds.{record_at}
use Rattle.log_folds.specs.Recorded.{live_at, logged_at}
use Rattle.log_folds.specs.Decoded.{decoded_record}
use Rattle.log_folds.proofs.UpTo.{seen_of_falling, upto_falls, past_is_absent}
use Rattle.log_folds.proofs.Recorded.{of_log}
use Rattle.log_folds.proofs.Said.{is_said}
use Rattle.book_api.specs.Books.{BookState, ordered, position}
use Rattle.step_log.specs.Sound.{body_of, bodies, live_bodies, view, Sound}
use Rattle.step_log.proofs.Calls.{own_view}
use Rattle.hm_switch.specs.declared.marks.Mark.TheVariants as m
use Rattle.hm_switch.specs.Marks.{mark_of, is_marked, mark_in, Comes}
use Rattle.hm_switch.specs.Next.{AreUnmarked, IsNext}
use Rattle.hm_switch.specs.SwitchStates.{SwitchState, IsFoldOf, IsNew, Follows, IsCurrent, Takes, GoesOn}
use Rattle.hm_switch.proofs.Taken.{fold_stays}

-- a record without these tags says nothing
unmarked_other : (body : Body) (tags : List Tag) → OwnTags body tags → is_marked tags ≡ false → mark_of body ≡ m.Other
unmarked_other (b.Init p) tags own none =
    absurd (both_ways (is_marked tags) none
    (ap is_marked own ∙ or_right (has_tag switch_tag (tags_of (b.Init p)) || has_tag trim_tag (tags_of (b.Init p))) (has_tag life_tag (tags_of (b.Init p))) (second_has life_tag (tag_of 2 (path_number p)) [])))
unmarked_other (b.Finish p i o) tags own none =
    absurd (both_ways (is_marked tags) none
    (ap is_marked own ∙ or_right (has_tag switch_tag (tags_of (b.Finish p i o)) || has_tag trim_tag (tags_of (b.Finish p i o))) (has_tag life_tag (tags_of (b.Finish p i o))) (second_has life_tag (tag_of 2 (path_number p)) [])))
unmarked_other (b.SwitchBegin target) tags own none = absurd (both_ways (is_marked tags) none (ap is_marked own))
unmarked_other b.SwitchEnd tags own none = absurd (both_ways (is_marked tags) none (ap is_marked own))
unmarked_other (b.Trim w) tags own none = absurd (both_ways (is_marked tags) none (ap is_marked own))
unmarked_other (b.Submit p f args) tags own none = refl
unmarked_other (b.Read p i key) tags own none = refl
unmarked_other (b.Write p i place key v) tags own none = refl
unmarked_other (b.Spawn p i ordinal f args) tags own none = refl
unmarked_other (b.Join p i ordinal) tags own none = refl
unmarked_other (b.Push p i queue v) tags own none = refl
unmarked_other (b.Pop p i queue) tags own none = refl
unmarked_other (b.TxnBegin p i names) tags own none = refl
unmarked_other (b.TxnCommit p i begun names writes) tags own none = refl
unmarked_other (b.TrimTag number bound) tags own none = refl
unmarked_other (b.User bytes) tags own none = refl
unmarked_other (b.ReadGroup p i keys) tags own none = refl

-- over records that say nothing
skipped : (s : SwitchState) (q n end : ℕ) (xs : List (Live Body)) → q ≤ n → FallBelow end xs → AllByRecursion IsWellFormedLive xs → AreUnmarked q (suc n) xs → IsFoldOf (upto q xs) s → IsFoldOf (upto n xs) s
skipped s q n end [] le fall own none fold = fold
skipped s q n end (x ∷ xs) le fall own none fold = at (skipped s q n x.seq xs le fall.2 own.1 none.1) (cases_lt q x.seq)
  where
    at : (IsFoldOf (upto q xs) s → IsFoldOf (upto n xs) s) → (q < x.seq) ⊎ (x.seq ≤ q) → IsFoldOf (upto n (x ∷ xs)) s
    at ih (inr within) = subst (λ l. IsFoldOf l s) (upto_here q x xs within ∙ sym (upto_here n x xs (omega arith))) fold
    at ih (inl above) = by (cases_lt n x.seq)
      where
        before : IsFoldOf (upto n xs) s
        before = ih (subst (λ l. IsFoldOf l s) (upto_skip q x xs above) fold)

        by : (n < x.seq) ⊎ (x.seq ≤ n) → IsFoldOf (upto n (x ∷ xs)) s
        by (inl far) = subst (λ l. IsFoldOf l s) (sym (upto_skip n x xs far)) before
        by (inr near) =
            subst (λ l. IsFoldOf l s) (sym (upto_here n x xs near))
            (fold_stays x.seq s x xs
            record { seqnum = refl; says = unmarked_other x.holds x.tags own.0.tags (none.0 above (omega arith)); positive = fall.0; newest = fall.2 }
            (subst (λ l. IsFoldOf l s) (upto_all x.seq n xs fall.2 (omega arith)) before))

module _ (kept : BookState) (engine : ℕ) where
  abbrev log : List (LogRecord Body)
  log = order (bodies kept) kept.vectors

  all_fall : FallBelow (suc (length log)) (live_bodies kept)
  all_fall = live_falls log

  pub view_falls : FallBelow (suc (position kept engine)) (view kept engine)
  view_falls = upto_falls (position kept engine) (suc (length log)) (live_bodies kept) all_fall

  -- what is seen of a view
  seen_less : (q : ℕ) → q ≤ position kept engine → upto q (view kept engine) ≡ upto q (live_bodies kept)
  seen_less q le =
      (seen_of_falling (suc (length log)) (position kept engine) (live_bodies kept) all_fall).less q
      ∙ ap (λ n. upto n (live_bodies kept)) (let e : min q (position kept engine) ≡ q = omega arith in e)

  -- a view that has seen nothing follows
  pub new_follows : (first : Mode) (s : SwitchState) → IsNew first s → Follows kept engine s
  new_follows first s new = record {
    within = (let z = new.position_is in omega arith);
    fold = subst (λ l. IsFoldOf l s) (sym (ap (λ n. upto n (live_bodies kept)) new.position_is ∙ none (suc (length log)) (live_bodies kept) all_fall)) new.fold;
  }
    where
      none : (end : ℕ) (xs : List (Live Body)) → FallBelow end xs → upto 0 xs ≡ []
      none end [] fall = refl
      none end (x ∷ xs) fall = upto_skip 0 x xs fall.0 ∙ none x.seq xs fall.2

  -- one at the engine's position is current
  pub whole_is_current : (s : SwitchState) → Follows kept engine s → position kept engine ≤ s.position → IsCurrent kept engine s
  whole_is_current s f le = record {
    follows = f;
    fold = subst (λ n. IsFoldOf (upto n (live_bodies kept)) s) (let w = f.within in let e : s.position ≡ position kept engine = omega arith in e) f.fold;
  }

  -- the record at a seqnum of the view
  record Stands (n : ℕ) (x : Live Body) : Type 0 where
    seqnum : x.seq ≡ n
    says : mark_of x.holds ≡ mark_in kept n
    within : n ≤ position kept engine

  logged : (n : ℕ) (x : Live Body) → record_at n (view kept engine) ≡ Some x → logged_at n log ≡ Some x
  logged n x is = at (is_live n (view kept engine)) (sym ((of_log log (position kept engine)).stands n) ∙ is)
    where
      at : (t : Bool) → cond t (logged_at n log) None ≡ Some x → logged_at n log ≡ Some x
      at true e = e
      at false e = cc

  stands : (n : ℕ) (x : Live Body) → record_at n (view kept engine) ≡ Some x → Stands n x
  stands n x is = at (at_seq n (ordered kept)) refl (sym (ap (option_map (live_at n)) ((is_said body_of kept.shards kept.vectors).stands n)) ∙ logged n x is)
    where
      within : n ≤ position kept engine
      within = by (cases_lt (position kept engine) n)
        where
          by : (position kept engine < n) ⊎ (n ≤ position kept engine) → n ≤ position kept engine
          by (inr le) = le
          by (inl lt) = absurd (let none = past_is_absent 0 (suc (position kept engine)) n (view kept engine) view_falls lt in let e = sym is ∙ none in let f : ⊥ = cc in f)

      at : (o : Option Record) → at_seq n (ordered kept) ≡ o → option_map (live_at n) (option_map (decoded_record body_of) o) ≡ Some x → Stands n x
      at None e f = cc
      at (Some r) e f =
          let same : live_at n (decoded_record body_of r) ≡ x = cc in
          record {
            seqnum = sym (ap (λ (y : Live Body). y.seq) same);
            says = sym (ap (λ (y : Live Body). mark_of y.holds) same) ∙ sym (ap (λ o. option_map_or (λ (r : Record). mark_of (body_of r.bytes)) o m.Other) e);
            within = within;
          }

  module _ (sound : Sound kept) where
    own : AllByRecursion IsWellFormedLive (view kept engine)
    own = own_view kept engine sound

    -- over what says nothing, up to the position
    pub passes : (s : SwitchState) → Follows kept engine s → s.position < position kept engine → AreUnmarked s.position (suc (position kept engine)) (view kept engine)
        → GoesOn kept engine s (record s { position = position kept engine })
    passes s f lt none = record { first_stays = refl; follows = record { within = omega arith; fold = whole }; rises = lt }
      where
        over : IsFoldOf (upto (position kept engine) (view kept engine)) s
        over = skipped s s.position (position kept engine) (suc (position kept engine)) (view kept engine) (omega arith) view_falls own none
            (subst (λ l. IsFoldOf l s) (sym (seen_less s.position f.within)) f.fold)

        whole : IsFoldOf (view kept engine) (record s { position = position kept engine })
        whole = (let g = subst (λ l. IsFoldOf l s) (seen_less (position kept engine) (omega arith)) over in record { lives = g.lives; modes = g.modes; bound_is = g.bound_is })

    -- and by the next record
    pub goes_to : (old new : SwitchState) (n : ℕ) → Follows kept engine old → IsNext old.position n (view kept engine) → Takes n (mark_in kept n) old new → GoesOn kept engine old new
    goes_to old new n f next takes = record {
      first_stays = takes.first_stays;
      follows = record {
        within = (let w = x_stands.within in let p = takes.position_is in omega arith);
        fold = subst (λ k. IsFoldOf (upto k (live_bodies kept)) new) (sym takes.position_is) (subst (λ l. IsFoldOf l new) (seen_less n x_stands.within) now);
      };
      rises = (let l = next.later in let p = takes.position_is in omega arith);
    }
      where
        x : Live Body
        x = next.record_there

        x_stands : Stands n x
        x_stands = stands n x next.there

        k : ℕ
        k = n - 1

        n_is : suc k ≡ n
        n_is = (let l = next.later in omega arith)

        -- behind the records before it
        before : IsFoldOf (upto k (view kept engine)) old
        before = skipped old old.position k (suc (position kept engine)) (view kept engine) (let l = next.later in omega arith) view_falls own
            (subst (λ e. AreUnmarked old.position e (view kept engine)) (sym n_is) next.before)
            (subst (λ l. IsFoldOf l old) (sym (seen_less old.position f.within)) f.fold)

        comes : Comes n (mark_in kept n) x (upto k (view kept engine))
        comes = record {
          seqnum = x_stands.seqnum;
          says = x_stands.says;
          positive = (let l = next.later in omega arith);
          newest = subst (λ e. FallBelow e (upto k (view kept engine))) n_is (upto_falls k (suc (position kept engine)) (view kept engine) view_falls);
        }

        joined : upto n (view kept engine) ≡ x ∷ upto k (view kept engine)
        joined =
            ap (λ e. upto e (view kept engine)) (sym n_is)
            ∙ (seen_of_falling (suc (position kept engine)) k (view kept engine) view_falls).one_more
            ∙ ap (λ e. prepend_some (record_at e (view kept engine)) (upto k (view kept engine))) n_is
            ∙ ap (λ o. prepend_some o (upto k (view kept engine))) next.there

        now : IsFoldOf (upto n (view kept engine)) new
        now = subst (λ l. IsFoldOf l new) (sym joined) (takes.folds x (upto k (view kept engine)) comes before)
