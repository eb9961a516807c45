-- The turns of records, one by one.
use Rattle.std.proofs.Common.{◌≡◌, ℕ, suc, ◌<◌, ◌≤◌, Bool, true, false, cond, leb, ◌&&◌, List, [], ◌∷◌, ◌++◌, append_assoc, Option, Some, None, option_map, option_and_then, refl, sym, ap, ◌∙◌, subst, arith}
use Rattle.std.specs.Prelude.{bytes_eq, is_some}
use Rattle.std.specs.List.{AllByRecursion}
use Rattle.std.proofs.lemmas.Bool.{le-leb, lt-leb, ne_eqb, eq-eqb}
use Rattle.lb_base.specs.Path.{IsPath}
use Rattle.boki_types.specs.declared.body.Body.{Body}
use Rattle.boki_types.specs.declared.body.Body.TheVariants as b
use Rattle.boki_types.specs.declared.program.Function.{Function}
use Rattle.boki_types.specs.declared.turn.Turn.TheVariants as t
use Rattle.boki_model.specs.Live.{Live, has_tag}
use Rattle.boki_model.specs.LogLaws.{FallBelow}
use Rattle.boki_model.specs.Maps.{get}
use Rattle.std.specs.Option.{option_or}
use Rattle.boki_model.specs.Reads.{next}
use Rattle.boki_model.specs.Bodies.{step_tag, step_of}
use Rattle.boki_model.specs.Writes.{Version, versions_at}
use Rattle.boki_machine.specs.Turns.{operation_count, operation_turn, turn_of, add_next_index, turns_to, turns}
use Rattle.exactly_once.specs.FurtherLaws.StepRecords.{is_step_of, IsWellFormedLive}
use Rattle.exactly_once.proofs.Log.MapChanges.{get-put}
use Rattle.log_folds.specs.Bounds.{record_at}
use Rattle.log_folds.specs.TurnsOneByOne.{index_of, first_index, next_step_index, step_turn, turn_at, turns_among, index_at}
use Rattle.log_folds.proofs.Basics.{or_none}
use Rattle.log_folds.proofs.Own.{tell_records}

-- the path's first step record of all
abbrev first_any : List ℕ → List (Live Body) → Option ℕ
first_any path [] = None
first_any path (x ∷ xs) = option_or (first_any path xs) (index_of path (step_of x.holds))

or_assoc : {X : Type 0} (o p q : Option X) → option_or (option_or o p) q ≡ option_or o (option_or p q)
or_assoc None p q = refl
or_assoc (Some x) p q = refl

any_append :
    (path : List ℕ) (zs ys : List (Live Body))
    → first_any path (zs ++ ys) ≡ option_or (first_any path ys) (first_any path zs)
any_append path [] ys = sym (or_none (first_any path ys))
any_append path (z ∷ zs) ys = ap (λ o. option_or o (index_of path (step_of z.holds))) (any_append path zs ys) ∙ or_assoc (first_any path ys) (first_any path zs) (index_of path (step_of z.holds))

-- none stands above records that are below
none_above :
    (path : List ℕ) (seq end : ℕ) (xs : List (Live Body)) → FallBelow end xs → end ≤ seq
    → first_index path seq xs ≡ None
none_above path seq end [] fall le = refl
none_above path seq end (x ∷ xs) fall le =
    let lt = fall.1 in
    ap (λ t. option_or (first_index path seq xs) (cond t (index_of path (step_of x.holds)) None)) (lt-leb seq x.seq (omega arith))
    ∙ or_none (first_index path seq xs)
    ∙ none_above path seq x.seq xs fall.2 (omega arith)

-- Records above x, then x, then those below it: the first one behind x is the first of those above.
first_behind :
    (path : List ℕ) (end : ℕ) (zs : List (Live Body)) (x : Live Body) (xs : List (Live Body))
    → FallBelow end (zs ++ x ∷ xs)
    → (first_index path (suc x.seq) (zs ++ x ∷ xs) ≡ first_any path zs) × (x.seq < end)
first_behind path end [] x xs fall = (none_above path (suc x.seq) (suc x.seq) (x ∷ xs) (fall.0, (let h : x.seq < suc x.seq = omega arith in h), fall.2) (omega arith), fall.1)
first_behind path end (z ∷ zs) x xs fall =
    let rest = first_behind path z.seq zs x xs fall.2 in (
      ap (λ o. option_or o (cond (leb (suc x.seq) z.seq) (index_of path (step_of z.holds)) None)) rest.0
          ∙ ap (λ t. option_or (first_any path zs) (cond t (index_of path (step_of z.holds)) None)) (le-leb (suc x.seq) z.seq rest.1),
      (let lt = rest.1 in let le = fall.1 in omega arith),
    )

module _ (fs : List Function) (versions : List Version) where
  -- one turn
  turn_same :
      (ahead : List (List ℕ × ℕ)) (nexts : Option (List ℕ × ℕ) → Option ℕ) (free : ℕ)
      → ((s : List ℕ × ℕ) → get s.0 ahead ≡ nexts (Some s)) → (body : Body)
      → turn_of fs ahead free body ≡ turn_at fs (nexts (step_of body)) free body
  turn_same ahead nexts free same (b.Submit p f args) = refl
  turn_same ahead nexts free same (b.Init p) = ap (λ o. t.Go p (operation_count o 1 0 free) ∷ []) (same (p, 1))
  turn_same ahead nexts free same (b.Finish p i outcome) = refl
  turn_same ahead nexts free same body = operation (step_of body)
    where
      operation : (o : Option (List ℕ × ℕ)) → operation_turn ahead free o ≡ step_turn (nexts o) free o
      operation None = refl
      operation (Some s) = ap (λ o. t.Go s.0 (operation_count o s.1 1 free) ∷ []) (same s)

  ahead_same :
      (ahead : List (List ℕ × ℕ)) (path : List ℕ) (o : Option (List ℕ × ℕ))
      → get path (add_next_index o ahead) ≡ option_or (index_of path o) (get path ahead)
  ahead_same ahead path None = refl
  ahead_same ahead path (Some s) = get-put path s.0 s.1 ahead ∙ at (bytes_eq path s.0)
    where
      at : (t : Bool) → cond t (Some s.1) (get path ahead) ≡ option_or (cond t (Some s.1) None) (get path ahead)
      at true = refl
      at false = refl

  turns_same :
      (ahead : List (List ℕ × ℕ)) (end : ℕ) (zs xs : List (Live Body)) → FallBelow end (zs ++ xs)
      → ((path : List ℕ) → get path ahead ≡ first_any path zs)
      → turns_to fs ahead versions xs ≡ turns_among fs versions (zs ++ xs) xs
  turns_same ahead end zs [] fall same = refl
  turns_same ahead end zs (x ∷ xs) fall same =
      ap (λ l. l ++ turn_of fs ahead (versions_at x.seq versions) x.holds)
      (turns_same (add_next_index (step_of x.holds) ahead) end (zs ++ x ∷ []) xs (subst (FallBelow end) (sym (append_assoc zs (x ∷ []) xs)) fall)
      (λ path. ahead_same ahead path (step_of x.holds) ∙ one path)
      ∙ ap (λ l. turns_among fs versions l xs) (append_assoc zs (x ∷ []) xs))
      ∙ ap (λ l. turns_among fs versions (zs ++ x ∷ xs) xs ++ l)
      (turn_same ahead (next_step_index x.seq (zs ++ x ∷ xs)) (versions_at x.seq versions) (λ s. same s.0 ∙ sym (first_behind s.0 end zs x xs fall).0) x.holds)
    where
      one :
          (path : List ℕ)
          → option_or (index_of path (step_of x.holds)) (get path ahead) ≡ first_any path (zs ++ x ∷ [])
      one path = ap (option_or (index_of path (step_of x.holds))) (same path) ∙ sym (any_append path zs (x ∷ []))

  pub turns_one_by_one :
      (end : ℕ) (records : List (Live Body)) → FallBelow end records
      → turns fs versions records ≡ turns_among fs versions records records
  turns_one_by_one end records fall = turns_same [] end [] records fall (λ path. refl)

-- By the step tag.

-- found at or below the newest seqnum
next_low : (tag seq end s : ℕ) (xs : List (Live Body)) → FallBelow end xs → next tag seq xs ≡ Some s → s < end
next_low tag seq end s [] fall is = cc
next_low tag seq end s (x ∷ xs) fall is = at (next tag seq xs) (next_low tag seq x.seq s xs fall.2) (has_tag tag x.tags && leb seq x.seq) is
  where
    at :
        (o : Option ℕ) → (o ≡ Some s → s < x.seq) → (t : Bool)
        → option_or o (cond t (Some x.seq) None) ≡ Some s → s < end
    at (Some r) ih t is = let lt = ih is in let le = fall.1 in omega arith
    at None ih true is = let same : x.seq ≡ s = cc in let le = fall.1 in omega arith
    at None ih false is = cc

module _ (path : List ℕ) (ok : IsPath path) where
  index_is : (o : Option (List ℕ × ℕ)) → is_step_of path o ≡ true → index_of path o ≡ option_map (λ s. s.1) o
  index_is None is = let no_way : ◌≡◌ {A = Bool} false true = is in cc
  index_is (Some s) is = ap (λ t. cond t (Some s.1) None) is

  index_none : (o : Option (List ℕ × ℕ)) → is_step_of path o ≡ false → index_of path o ≡ None
  index_none None is = refl
  index_none (Some s) is = ap (λ t. cond t (Some s.1) None) is

  index_some : (o : Option (List ℕ × ℕ)) → is_some (index_of path o) ≡ is_step_of path o
  index_some None = refl
  index_some (Some s) = at (bytes_eq path s.0)
    where
      at : (t : Bool) → is_some (cond t (Some s.1) None) ≡ t
      at true = refl
      at false = refl

  told : (x : Live Body) → IsWellFormedLive x → has_tag (step_tag path) x.tags ≡ is_step_of path (step_of x.holds)
  told x own = (tell_records path x.holds x.tags ok own.tags own.paths).step

  -- one is found where there is an index
  both_found :
      (seq : ℕ) (records : List (Live Body)) → AllByRecursion IsWellFormedLive records
      → is_some (first_index path seq records) ≡ is_some (next (step_tag path) seq records)
  both_found seq [] own = refl
  both_found seq (x ∷ xs) own = at (first_index path seq xs) (next (step_tag path) seq xs) (both_found seq xs own.1) (leb seq x.seq) (has_tag (step_tag path) x.tags) (index_some (step_of x.holds) ∙ sym (told x own.0))
    where
      at :
          (i o : Option ℕ) → is_some i ≡ is_some o → (t h : Bool)
          → is_some (index_of path (step_of x.holds)) ≡ h
          → is_some (option_or i (cond t (index_of path (step_of x.holds)) None)) ≡ is_some (option_or o (cond (h && t) (Some x.seq) None))
      at (Some i) (Some o) same t h is = refl
      at (Some i) None same t h is = let no_way : ◌≡◌ {A = Bool} true false = same in cc
      at None (Some o) same t h is = let no_way : ◌≡◌ {A = Bool} false true = same in cc
      at None None same true true is = is
      at None None same true false is = is
      at None None same false true is = refl
      at None None same false false is = refl

  by_tag :
      (end seq : ℕ) (records : List (Live Body)) → FallBelow end records → AllByRecursion IsWellFormedLive records
      → first_index path seq records ≡ index_at (next (step_tag path) seq records) records
  by_tag end seq [] fall own = refl
  by_tag end seq (x ∷ xs) fall own = at (next (step_tag path) seq xs) refl (by_tag x.seq seq xs fall.2 own.1) (both_found seq xs own.1)
    where
      here :
          (h : Bool) → has_tag (step_tag path) x.tags ≡ h → (t : Bool)
          → cond t (index_of path (step_of x.holds)) None
          ≡ index_at (cond (h && t) (Some x.seq) None) (x ∷ xs)
      here true e true =
          index_is (step_of x.holds) (sym (told x own.0) ∙ e)
          ∙ sym (ap (λ t. option_and_then (λ (x : Live Body). option_map (λ s. s.1) (step_of x.holds)) (cond t (Some x) (record_at x.seq xs))) (eq-eqb x.seq x.seq refl))
      here false e true = index_none (step_of x.holds) (sym (told x own.0) ∙ e)
      here true e false = refl
      here false e false = refl

      kept : (i o : Option ℕ) → is_some i ≡ true → option_or i o ≡ i
      kept None o is = let no_way : ◌≡◌ {A = Bool} false true = is in cc
      kept (Some i) o is = refl

      at :
          (o : Option ℕ) → next (step_tag path) seq xs ≡ o
          → first_index path seq xs ≡ index_at (next (step_tag path) seq xs) xs
          → is_some (first_index path seq xs) ≡ is_some (next (step_tag path) seq xs)
          → option_or (first_index path seq xs) (cond (leb seq x.seq) (index_of path (step_of x.holds)) None)
          ≡ index_at (option_or o (cond (has_tag (step_tag path) x.tags && leb seq x.seq) (Some x.seq) None)) (x ∷ xs)
      at (Some s) e ih both =
          kept (first_index path seq xs) (cond (leb seq x.seq) (index_of path (step_of x.holds)) None) (both ∙ ap is_some e)
          ∙ ih
          ∙ ap (λ o. index_at o xs) e
          ∙ sym (ap (λ t. option_and_then (λ (x : Live Body). option_map (λ s. s.1) (step_of x.holds)) (cond t (Some x) (record_at s xs))) (ne_eqb s x.seq (λ same. let lt = next_low (step_tag path) seq x.seq s xs fall.2 e in omega arith)))
      at None e ih both =
          ap (λ o. option_or o (cond (leb seq x.seq) (index_of path (step_of x.holds)) None)) (ih ∙ ap (λ o. index_at o xs) e)
          ∙ here (has_tag (step_tag path) x.tags) refl (leb seq x.seq)

pub first_step_by_tag :
    (path : List ℕ) (end seq : ℕ) (records : List (Live Body)) → IsPath path → FallBelow end records
    → AllByRecursion IsWellFormedLive records
    → first_index path seq records ≡ index_at (next (step_tag path) seq records) records
first_step_by_tag path end seq records ok fall own = by_tag path ok end seq records fall own
