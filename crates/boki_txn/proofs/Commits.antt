-- Whether a commit succeeds, by the names with the commits that wrote them.
use Rattle.std.proofs.Common.{◌≡◌, ℕ, suc, ◌<◌, ◌≤◌, Bool, true, false, not, cond, eqb, ltb, ◌&&◌, ◌||◌, List, [], ◌∷◌, ◌++◌, Option, Some, None, option_map, unwrap_or, bytes_eq, refl, sym, ap, ◌∙◌, arith}
use Rattle.std.specs.Option.{option_map_or}
use Rattle.std.specs.List.{list_any}
use Rattle.std.proofs.lemmas.Bool.{le-ltb, ne_eqb, eq-eqb, ltb-false}
use Rattle.lb_base.specs.declared.value.Value.{Value}
use Rattle.lb_base.specs.declared.value.Value.TheVariants.{Nothing}
use Rattle.boki_types.specs.declared.body.Body.{Body}
use Rattle.boki_types.specs.declared.body.Body.TheVariants as b
use Rattle.boki_model.specs.Live.{Live}
use Rattle.boki_model.specs.LogLaws.{FallBelow}
use Rattle.std.specs.declared.cmp.Ordering.{Ordering}
use Rattle.std.specs.declared.cmp.Ordering.TheVariants.{Less, Equal, Greater}
use Rattle.std.specs.FinMap.Entries.{by_order}
use Rattle.boki_model.specs.Maps.{key_order, get, put, has}
use Rattle.boki_model.specs.Folds.{Commit, written_names, intersects, succeeds, add_commit, commits, put_all, store_values}
use Rattle.exactly_once.proofs.Log.MapChanges.{get-put}
use Rattle.boki_txn.specs.Names.{StoredNames, stored_name, with_values, put_writes, names_behind, value_of, is_dirty, may_commit, is_good, changed_by}
use Rattle.boki_txn.specs.declared.stored.StoredName.{StoredName}

-- Lists of tests.
any_append : {X : Type 0} (p : X → Bool) (xs ys : List X) → list_any p (xs ++ ys) ≡ (list_any p xs || list_any p ys)
any_append p [] ys = refl
any_append p (x ∷ xs) ys = at (p x) (any_append p xs ys)
  where
    at : (t : Bool) → list_any p (xs ++ ys) ≡ (list_any p xs || list_any p ys) → (t || list_any p (xs ++ ys)) ≡ ((t || list_any p xs) || list_any p ys)
    at true ih = refl
    at false ih = ih

any_same : {X : Type 0} (p q : X → Bool) (xs : List X) → ((x : X) → p x ≡ q x) → list_any p xs ≡ list_any q xs
any_same p q [] same = refl
any_same p q (x ∷ xs) same = ap (λ t. t || list_any p xs) (same x) ∙ ap (λ t. q x || t) (any_same p q xs same)

any_none : {X : Type 0} (p : X → Bool) (xs : List X) → ((x : X) → p x ≡ false) → list_any p xs ≡ false
any_none p [] none = refl
any_none p (x ∷ xs) none = ap (λ t. t || list_any p xs) (none x) ∙ any_none p xs none

any_or : {X : Type 0} (p q : X → Bool) (xs : List X) → list_any (λ x. p x || q x) xs ≡ (list_any p xs || list_any q xs)
any_or p q [] = refl
any_or p q (x ∷ xs) = at (p x) (q x) (list_any p xs) (any_or p q xs)
  where
    at : (s t u : Bool) → list_any (λ x. p x || q x) xs ≡ (u || list_any q xs) → ((s || t) || list_any (λ x. p x || q x) xs) ≡ ((s || u) || (t || list_any q xs))
    at true t u ih = refl
    at false false u ih = ih
    at false true false ih = refl
    at false true true ih = refl

not_both : (s t : Bool) → (not s && not t) ≡ not (s || t)
not_both true t = refl
not_both false t = refl

intersects_any : (names others : List (List ℕ)) → intersects names others ≡ list_any (λ n. has n others) names
intersects_any [] others = refl
intersects_any (n ∷ ns) others = ap (λ t. has n others || t) (intersects_any ns others)

-- What commits write.
dirty_put : (begin seq : ℕ) (n m : List ℕ) (v : Value) (names : StoredNames)
    → is_dirty begin (put m (stored_name seq v) names) n ≡ cond (bytes_eq n m) (ltb begin seq) (is_dirty begin names n)
dirty_put begin seq n m v names = ap (λ o. option_map_or (λ (s : StoredName). ltb begin s.commit) o false) (get-put n m (stored_name seq v) names) ∙ at (bytes_eq n m)
  where
    at : (t : Bool) → option_map_or (λ (s : StoredName). ltb begin s.commit) (cond t (Some (stored_name seq v)) (get n names)) false ≡ cond t (ltb begin seq) (is_dirty begin names n)
    at true = refl
    at false = refl

dirty_after : (begin seq : ℕ) (n : List ℕ) (ws : List (List ℕ × Value)) (names : StoredNames)
    → is_dirty begin (put_writes seq ws names) n ≡ cond (has n (written_names ws)) (ltb begin seq) (is_dirty begin names n)
dirty_after begin seq n [] names = refl
dirty_after begin seq n (w ∷ ws) names =
    dirty_after begin seq n ws (put w.0 (stored_name seq w.1) names)
    ∙ ap (cond (has n (written_names ws)) (ltb begin seq)) (dirty_put begin seq n w.0 w.1 names)
    ∙ at (has n (written_names ws)) (bytes_eq n w.0)
  where
    at : (s t : Bool) → cond s (ltb begin seq) (cond t (ltb begin seq) (is_dirty begin names n)) ≡ cond (t || s) (ltb begin seq) (is_dirty begin names n)
    at true true = refl
    at true false = refl
    at false true = refl
    at false false = refl

-- Seqnums fall from the newest commit on.
abbrev pub CommitsFall : ℕ → List Commit → Type 0
CommitsFall end [] = Unit {0}
CommitsFall end (c ∷ cs) = (c.seq < end) × CommitsFall c.seq cs

fall_on : (low end : ℕ) (cs : List Commit) → low ≤ end → CommitsFall low cs → CommitsFall end cs
fall_on low end [] le fall = tt
fall_on low end (c ∷ cs) le fall = (omega (arith, fall.0), fall.1)

added_fall : (seq end : ℕ) (body : Body) (cs : List Commit) → seq < end → CommitsFall seq cs → CommitsFall end (add_commit seq body cs)
added_fall seq end (b.TxnCommit p i begin names writes) cs lt fall = at (succeeds begin names writes cs)
  where
    at : (t : Bool) → CommitsFall end (cond t (record { seq = seq; writes = writes } ∷ cs) cs)
    at true = (lt, fall)
    at false = fall_on seq end cs (omega arith) fall
added_fall seq end _ cs lt fall = fall_on seq end cs (omega arith) fall

pub commits_fall : (end : ℕ) (xs : List (Live Body)) → FallBelow end xs → CommitsFall end (commits xs)
commits_fall end [] fall = tt
commits_fall end (x ∷ xs) fall = added_fall x.seq end x.holds (commits xs) fall.1 (commits_fall x.seq xs fall.2)

-- No commit behind the begin wrote anything.
module _ (begin : ℕ) where
  none_dirty : (end : ℕ) (cs : List Commit) → end ≤ suc begin → CommitsFall end cs → (n : List ℕ) → is_dirty begin (names_behind cs) n ≡ false
  none_dirty end [] le fall n = refl
  none_dirty end (c ∷ cs) le fall n =
      dirty_after begin c.seq n c.writes (names_behind cs)
      ∙ ap (λ t. cond (has n (written_names c.writes)) t (is_dirty begin (names_behind cs) n)) (le-ltb begin c.seq (let low = fall.0 in omega arith))
      ∙ ap (cond (has n (written_names c.writes)) false) (none_dirty c.seq cs (let low = fall.0 in omega arith) fall.1 n)
      ∙ at (has n (written_names c.writes))
    where
      at : (t : Bool) → cond t false false ≡ false
      at true = refl
      at false = refl

  abbrev new_dirty : Commit → List Commit → List ℕ → Bool
  new_dirty c cs n = is_dirty begin (put_writes c.seq c.writes (names_behind cs)) n

  module _ (read : List (List ℕ)) (writes : List (List ℕ × Value)) where
    abbrev all_names : List (List ℕ)
    all_names = read ++ written_names writes

    any_dirty : (names : StoredNames) → may_commit begin read writes names ≡ not (list_any (is_dirty begin names) all_names)
    any_dirty names = not_both (list_any (is_dirty begin names) read) (list_any (is_dirty begin names) (written_names writes)) ∙ ap not (sym (any_append (is_dirty begin names) read (written_names writes)))

    succeeds_is : (end : ℕ) (cs : List Commit) → CommitsFall end cs → succeeds begin read writes cs ≡ not (list_any (is_dirty begin (names_behind cs)) all_names)
    succeeds_is end [] fall = sym (ap not (any_none (is_dirty begin []) all_names (λ n. refl)))
    succeeds_is end (c ∷ cs) fall = at (ltb begin c.seq) refl (succeeds_is c.seq cs fall.1)
      where
        both : (n : List ℕ) → ltb begin c.seq ≡ true → new_dirty c cs n ≡ (has n (written_names c.writes) || is_dirty begin (names_behind cs) n)
        both n t =
            dirty_after begin c.seq n c.writes (names_behind cs)
            ∙ ap (λ t. cond (has n (written_names c.writes)) t (is_dirty begin (names_behind cs) n)) t
            ∙ on (has n (written_names c.writes))
          where
            on : (s : Bool) → cond s true (is_dirty begin (names_behind cs) n) ≡ (s || is_dirty begin (names_behind cs) n)
            on true = refl
            on false = refl

        at : (t : Bool) → ltb begin c.seq ≡ t → succeeds begin read writes cs ≡ not (list_any (is_dirty begin (names_behind cs)) all_names)
            → (not (ltb begin c.seq && intersects all_names (written_names c.writes)) && succeeds begin read writes cs) ≡ not (list_any (new_dirty c cs) all_names)
        at true t ih =
            ap (λ s. not (s && intersects all_names (written_names c.writes)) && succeeds begin read writes cs) t
            ∙ ap (λ s. not s && succeeds begin read writes cs) (intersects_any all_names (written_names c.writes))
            ∙ ap (λ s. not (list_any (λ n. has n (written_names c.writes)) all_names) && s) ih
            ∙ not_both (list_any (λ n. has n (written_names c.writes)) all_names) (list_any (is_dirty begin (names_behind cs)) all_names)
            ∙ ap not (sym (any_or (λ n. has n (written_names c.writes)) (is_dirty begin (names_behind cs)) all_names))
            ∙ ap not (sym (any_same (new_dirty c cs) (λ n. has n (written_names c.writes) || is_dirty begin (names_behind cs) n) all_names (λ n. both n t)))
        at false t ih =
            let le : c.seq ≤ begin = ltb-false begin c.seq t in
            ap (λ s. not (s && intersects all_names (written_names c.writes)) && succeeds begin read writes cs) t
            ∙ ih
            ∙ ap not (any_none (is_dirty begin (names_behind cs)) all_names (none_dirty c.seq cs (omega arith) fall.1))
            ∙ sym (ap not (any_none (new_dirty c cs) all_names (none_dirty (suc c.seq) (c ∷ cs) (omega arith) (omega arith, fall.1))))

    pub may_is : (end : ℕ) (cs : List Commit) → CommitsFall end cs → succeeds begin read writes cs ≡ may_commit begin read writes (names_behind cs)
    may_is end cs fall = succeeds_is end cs fall ∙ sym (any_dirty (names_behind cs))

-- One record.
pub changed_one : (seq end : ℕ) (body : Body) (cs : List Commit) → CommitsFall end cs → names_behind (add_commit seq body cs) ≡ changed_by seq body (names_behind cs)
changed_one seq end (b.TxnCommit p i begin read writes) cs fall = at (succeeds begin read writes cs) ∙ ap (λ t. cond t (put_writes seq writes (names_behind cs)) (names_behind cs)) (may_is begin read writes end cs fall)
  where
    at : (t : Bool) → names_behind (cond t (record { seq = seq; writes = writes } ∷ cs) cs) ≡ cond t (put_writes seq writes (names_behind cs)) (names_behind cs)
    at true = refl
    at false = refl
changed_one seq end _ cs fall = refl

-- Values.
abbrev value_in : Option StoredName → Option Value
value_in o = option_map (λ (s : StoredName). s.value) o

put_alike : (seq : ℕ) (ws : List (List ℕ × Value)) (names : StoredNames) (store : List (List ℕ × Value)) → ((n : List ℕ) → value_in (get n names) ≡ get n store)
    → (n : List ℕ) → value_in (get n (put_writes seq ws names)) ≡ get n (put_all ws store)
put_alike seq [] names store same n = same n
put_alike seq (w ∷ ws) names store same n = put_alike seq ws (put w.0 (stored_name seq w.1) names) (put w.0 w.1 store) (λ m. one m) n
  where
    one : (m : List ℕ) → value_in (get m (put w.0 (stored_name seq w.1) names)) ≡ get m (put w.0 w.1 store)
    one m = ap value_in (get-put m w.0 (stored_name seq w.1) names) ∙ at (bytes_eq m w.0) ∙ sym (get-put m w.0 w.1 store)
      where
        at : (t : Bool) → value_in (cond t (Some (stored_name seq w.1)) (get m names)) ≡ cond t (Some w.1) (get m store)
        at true = refl
        at false = same m

names_alike : (cs : List Commit) (n : List ℕ) → value_in (get n (names_behind cs)) ≡ get n (store_values cs)
names_alike [] n = refl
names_alike (c ∷ cs) n = put_alike c.seq c.writes (names_behind cs) (store_values cs) (names_alike cs) n

pub value_is : (n : List ℕ) (cs : List Commit) → value_of n (names_behind cs) ≡ unwrap_or (get n (store_values cs)) Nothing
value_is n cs = at (get n (names_behind cs)) ∙ ap (λ o. unwrap_or o Nothing) (names_alike cs n)
  where
    at : (o : Option StoredName) → option_map_or (λ (s : StoredName). s.value) o Nothing ≡ unwrap_or (value_in o) Nothing
    at None = refl
    at (Some s) = refl

-- The names with their values are those of the definitions.
value_put : (k : List ℕ) (s : StoredName) (names : StoredNames) → with_values (put k s names) ≡ put k s.value (with_values names)
value_put k s [] = refl
value_put k s (e ∷ es) = by (key_order k e.0) (value_put k s es)
  where
    by : (o : Ordering) → with_values (put k s es) ≡ put k s.value (with_values es)
        → with_values (by_order o ((k, s) ∷ e ∷ es) ((e.0, s) ∷ es) (e ∷ put k s es))
        ≡ by_order o ((k, s.value) ∷ (e.0, e.1.value) ∷ with_values es) ((e.0, s.value) ∷ with_values es) ((e.0, e.1.value) ∷ put k s.value (with_values es))
    by Less ih = refl
    by Equal ih = refl
    by Greater ih = ap (λ (l : List (List ℕ × Value)). let m : List (List ℕ × Value) = (e.0, e.1.value) ∷ l in m) ih

values_put : (seq : ℕ) (ws : List (List ℕ × Value)) (names : StoredNames) → with_values (put_writes seq ws names) ≡ put_all ws (with_values names)
values_put seq [] names = refl
values_put seq (w ∷ ws) names = values_put seq ws (put w.0 (stored_name seq w.1) names) ∙ ap (put_all ws) (value_put w.0 (stored_name seq w.1) names)

pub values_are : (cs : List Commit) → with_values (names_behind cs) ≡ store_values cs
values_are [] = refl
values_are (c ∷ cs) = values_put c.seq c.writes (names_behind cs) ∙ ap (put_all c.writes) (values_are cs)

-- Whether one of the commits is that of a seqnum.
abbrev commits_with : ℕ → List Commit → Bool
commits_with seq cs = list_any (λ c. eqb seq c.seq) cs

pub none_with : (seq end : ℕ) (cs : List Commit) → end ≤ seq → CommitsFall end cs → commits_with seq cs ≡ false
none_with seq end [] le fall = refl
none_with seq end (c ∷ cs) le fall =
    ap (λ t. t || commits_with seq cs) (ne_eqb seq c.seq (λ e. omega (arith, e, fall.0)))
    ∙ none_with seq c.seq cs (let low = fall.0 in omega arith) fall.1

pub added_here : (seq end : ℕ) (body : Body) (cs : List Commit) → end ≤ seq → CommitsFall end cs → commits_with seq (add_commit seq body cs) ≡ is_good body (names_behind cs)
added_here seq end (b.TxnCommit p i begin read writes) cs le fall = at (succeeds begin read writes cs) ∙ may_is begin read writes end cs fall
  where
    at : (t : Bool) → commits_with seq (cond t (record { seq = seq; writes = writes } ∷ cs) cs) ≡ t
    at true = ap (λ t. t || commits_with seq cs) (eq-eqb seq seq refl)
    at false = none_with seq end cs le fall
added_here seq end _ cs le fall = none_with seq end cs le fall

pub added_apart : (seq other : ℕ) (body : Body) (cs : List Commit) → seq < other → commits_with seq (add_commit other body cs) ≡ commits_with seq cs
added_apart seq other (b.TxnCommit p i begin read writes) cs lt = at (succeeds begin read writes cs)
  where
    at : (t : Bool) → commits_with seq (cond t (record { seq = other; writes = writes } ∷ cs) cs) ≡ commits_with seq cs
    at true = ap (λ t. t || commits_with seq cs) (ne_eqb seq other (λ e. omega arith))
    at false = refl
added_apart seq other _ cs lt = refl
