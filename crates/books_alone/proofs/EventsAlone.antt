-- One event: what each book sees of it, and what holds behind it.
use Rattle.std.proofs.Common.{◌≡◌, ℕ, zero, suc, ◌+◌, ◌-◌, ◌*◌, ◌%◌, ◌^◌, ◌<◌, ◌≤◌, Bool, true, false, cond, eqb, leb, ◌&&◌, ◌||◌, List, [], ◌∷◌, ◌++◌, length, take, map, Option, Some, None, refl, sym, ap, ◌∙◌, subst, arith}
use Rattle.std.specs.List.{AllByRecursion, list_all}
use Rattle.std.specs.Prelude.{slice_index_or, slice_set}
use Rattle.std.proofs.lemmas.Bool.{eqb-true, eqb-false, eq-eqb, ne_eqb, and_parts, ltb-true, leb-true}
use Rattle.std.proofs.lemmas.List.{length-append}
use Rattle.lb_base.specs.declared.value.Tag.{Tag}
use Rattle.lb_base.specs.declared.value.Cond.{Cond}
use Rattle.lb_base.specs.declared.value.Seqnum.{Seqnum}
use Rattle.boki_types.specs.declared.body.Body.{Body}
use Rattle.boki_types.specs.declared.body.Body.TheVariants as body
use Rattle.boki_types.specs.declared.event.Event.{Event}
use Rattle.boki_types.specs.declared.event.Event.TheVariants as v
use Rattle.boki_types.specs.declared.line.Line.{Line}
use Rattle.boki_types.specs.declared.line.Line.TheVariants as l
use Rattle.boki_types.specs.declared.log.Sent.{Sent}
use Rattle.boki_types.specs.declared.plan.Setup.{Setup}
use Rattle.boki_model.specs.Order.{last_vector, progress, entry_records, seq_of}
use Rattle.boki_model.specs.OrderLaws.{AreAtMost, add_to}
use Rattle.boki_model.specs.Live.{LogRecord}
use Rattle.boki_model.specs.Reads.{read_next, read_prev}
use Rattle.boki_model.specs.Bodies.{trim_of}
use Rattle.boki_model.specs.Plans.{is_from_one_to, in_bounds}
use Rattle.boki_model.specs.Entries.{same_counts}
use Rattle.boki_machine.specs.Machine.{Machine, EventResult, event_result, sends, with_aux, set_aux, get_aux, catch_up, restart_engine, log, position, view, home_shard, next_sent, append_to, log_record, first_tag, cut, cuts_nothing, found_line, settle_line, aux_at, move_to_front, apply_event}
use Rattle.books_alone.specs.Books.{book_tag, own_tag, book_of, is_of, own_entry, own_entries, own_vector, own_vectors, own_seq, own_local, own_lives, count_selected, physical_seq, physical_local}
use Rattle.books_alone.specs.Mux.{Mux, MuxDone, mux_done, mux_sets, own_position, mux_setup, are_sizes, is_shared, is_own_tag, are_own_tags, is_book_event, mux_happens, to_book, book_aux, engine_aux, mux_uses, mux_gets, own}
use Rattle.books_alone.specs.Laws.{AreTagsOf, AreOwned, IsOwned, IsMux, IsAsAlone}
use Rattle.books_alone.proofs.Picked.{length-picked, map_set, map_at, how_many_push, each_set, each_append, each_at, each_weaker}
use Rattle.books_alone.proofs.BookOrder.{vector_same, last_same}
use Rattle.books_alone.proofs.BookTags.{own_again, tags_are, book_of_tag}
use Rattle.books_alone.proofs.BookNumbers.{count_none}
use Rattle.books_alone.proofs.BookPlaces.{seq_own}
use Rattle.books_alone.proofs.BookLines.{next_sees, prev_sees, tail_sees, found_own, settles_own}
use Rattle.books_alone.proofs.BookMachine.{same_machine, most_itself, most_more, progress_all, all_vector, count_front, positions_stay, each_owned, length_own, position_own, view_is, log_stays, append_mine, append_other}

-- Lists that are set at one place.

length-slice_set : {X : Type 0} (xs : List X) (k : ℕ) (x : X) → length (slice_set xs k x) ≡ length xs
length-slice_set [] k x = refl
length-slice_set (y ∷ ys) zero x = refl
length-slice_set (y ∷ ys) (suc k) x = ap suc (length-slice_set ys k x)

at_set : {X : Type 0} (xs : List X) (k : ℕ) (x d : X) → k < length xs → slice_index_or (slice_set xs k x) k d ≡ x
at_set [] k x d lt = absurd (let h : ⊥ = omega arith in h)
at_set (y ∷ ys) zero x d lt = refl
at_set (y ∷ ys) (suc k) x d lt = at_set ys k x d (omega arith)

at_other : {X : Type 0} (xs : List X) (k i : ℕ) (x d : X) → (k ≡ i → ⊥) → slice_index_or (slice_set xs k x) i d ≡ slice_index_or xs i d
at_other [] k i x d ne = refl
at_other (y ∷ ys) zero zero x d ne = absurd (ne refl)
at_other (y ∷ ys) zero (suc i) x d ne = refl
at_other (y ∷ ys) (suc k) zero x d ne = refl
at_other (y ∷ ys) (suc k) (suc i) x d ne = at_other ys k i x d (λ e. ne (ap suc e))

take_push : {X : Type 0} (s : List X) (x : X) → take (suc (length s)) (s ++ x ∷ []) ≡ s ++ x ∷ []
take_push [] x = refl
take_push (y ∷ s) x = ap (λ l. y ∷ l) (take_push s x)

each_tag : (test : Tag → Bool) (P : Tag → Type 0) → ((t : Tag) → test t ≡ true → P t) → (tags : List Tag) → list_all test tags ≡ true → AllByRecursion P tags
each_tag test P f [] e = tt
each_tag test P f (t ∷ ts) e = let parts = and_parts (test t) (list_all test ts) e in (f t parts.0, each_tag test P f ts parts.1)

-- The numbers of events.

module _ (shards engines books : ℕ) (sizes : are_sizes shards engines books ≡ true) where
  some_shards : 0 < shards
  some_shards =
      let one = (and_parts (in_bounds 1 16 shards && in_bounds 1 16 engines) (in_bounds 1 255 books) sizes).0 in
      let two = (and_parts (in_bounds 1 16 shards) (in_bounds 1 16 engines) one).0 in
      let three = leb-true 1 shards (and_parts (leb 1 shards) (leb shards 16) two).0 in
      omega (arith, three)

  most_books : books < 256
  most_books =
      let one = (and_parts (in_bounds 1 16 shards && in_bounds 1 16 engines) (in_bounds 1 255 books) sizes).1 in
      let two = leb-true books 255 (and_parts (leb 1 books) (leb books 255) one).1 in
      omega (arith, two)

  pub book_within : (b : ℕ) → is_from_one_to books b ≡ true → (0 < b) × (b ≤ books)
  book_within b e = let parts = and_parts (leb 1 b) (leb b books) e in (let x = leb-true 1 b parts.0 in omega (arith, x), leb-true b books parts.1)

-- A book's tags.

record IsTagged (b : ℕ) (tags : List Tag) : Type 0 where
  book : book_of (map (book_tag b) tags) ≡ b
  owned : AreOwned (map (book_tag b) tags)
  again : map own_tag (map (book_tag b) tags) ≡ tags

tagged : (b : ℕ) (tags : List Tag) → b < 256 → 0 < length tags → list_all is_own_tag tags ≡ true → IsTagged b tags
tagged b [] lt some e = absurd (let h : ⊥ = omega arith in h)
tagged b (t ∷ ts) lt some e =
    let small = each_tag is_own_tag (λ u. u.0 < 2 ^ 48) (λ u is. ltb-true u.0 (2 ^ 48) is) (t ∷ ts) e in
    let is = book_of_tag b t.0 small.0 in
    record {
      book = is;
      owned = record { all = subst (λ c. AreTagsOf c (map (book_tag b) (t ∷ ts))) (sym is) (tags_are b (t ∷ ts) small); book = subst (λ c. c < 256) (sym is) lt };
      again = own_again b (t ∷ ts) small;
    }

own_first : (b : ℕ) (tags : List Tag) → 0 < length tags → own_tag (first_tag (map (book_tag b) tags)) ≡ first_tag (map own_tag (map (book_tag b) tags))
own_first b [] some = absurd (let h : ⊥ = omega arith in h)
own_first b (t ∷ ts) some = refl

-- One event of a book.

-- what it does is what it does to the book alone, and it does nothing to others
record Acts (shards books : ℕ) (m : Mux) (b : ℕ) (d : MuxDone) (a : EventResult) : Type 0 where
  is : IsMux shards books d.mux
  line : d.line ≡ a.line
  machine : own b d.mux ≡ a.machine
  others : (c : ℕ) → is_from_one_to books c ≡ true → (c ≡ b → ⊥) → own c d.mux ≡ own c m

module _ (shards engines books : ℕ) (sizes : are_sizes shards engines books ≡ true) (m : Mux) (is : IsMux shards books m) (b : ℕ) (book : is_from_one_to books b ≡ true) where
  setup : Setup
  setup = mux_setup shards engines

  owned : AllByRecursion IsOwned (log m.physical)
  owned = each_owned shards books m is b

  -- An append.

  append_is : (shard : ℕ) (r : LogRecord Body) → IsOwned r → IsMux shards books (record m { physical = append_to shard r m.physical })
  append_is shard r one = record {
    grow = is.grow;
    most = most_more (shard - 1) r m.physical.shards (last_vector m.physical.vectors) is.most;
    whole = is.whole;
    records =
        each_set (λ s. AllByRecursion IsOwned s) (shard - 1) (slice_index_or m.physical.shards (shard - 1) [] ++ r ∷ []) m.physical.shards
        (each_append IsOwned (slice_index_or m.physical.shards (shard - 1) []) (r ∷ []) (each_at (λ s. AllByRecursion IsOwned s) (shard - 1) m.physical.shards [] tt is.records) (one, tt))
        is.records;
    positions = subst (λ l. AllByRecursion (λ p. p ≤ length l) m.physical.positions) (sym (log_stays shards books m is b shard r)) is.positions;
    sized = length-slice_set m.physical.shards (shard - 1) (slice_index_or m.physical.shards (shard - 1) [] ++ r ∷ []) ∙ is.sized;
    booked = is.booked;
  }

  local_own : (k : ℕ) (r : LogRecord Body) → k < length m.physical.shards → is_of b r ≡ true
      → own_local b (slice_index_or (add_to k r m.physical.shards) k []) (suc (length (slice_index_or m.physical.shards k [])))
      ≡ suc (length (slice_index_or (map (own_entries b) m.physical.shards) k []))
  local_own k r lt mine =
      let s = slice_index_or m.physical.shards k [] in
      ap (λ l. count_selected (is_of b) (take (suc (length s)) l)) (at_set m.physical.shards k (s ++ r ∷ []) [] lt)
      ∙ ap (count_selected (is_of b)) (take_push s r)
      ∙ how_many_push (is_of b) r s
      ∙ ap (λ t. cond t (suc (count_selected (is_of b) s)) (count_selected (is_of b) s)) mine
      ∙ ap suc (sym (length-picked (is_of b) own_entry s))
      ∙ ap (λ l. suc (length l)) (sym (map_at (own_entries b) k m.physical.shards []))

  home_within : (engine : ℕ) → home_shard (mux_setup shards engines) engine - 1 < length m.physical.shards
  home_within engine =
      let some = some_shards shards engines books sizes in
      let e = is.sized in
      let lt : (engine - 1) % shards < shards = omega (arith, some) in
      omega (arith, lt, e)

  sends_acts : (engine : ℕ) (r alone : LogRecord Body) → book_of r.tags ≡ b → IsOwned r → own_entry r ≡ alone
      → Acts shards books m b
      (mux_done (record m { physical = append_to (home_shard (mux_setup shards engines) engine) r m.physical })
      (to_book b (append_to (home_shard (mux_setup shards engines) engine) r m.physical) (l.Sent (next_sent (mux_setup shards engines) m.physical engine))))
      (sends (mux_setup shards engines) (own b m) engine alone)
  sends_acts engine r alone tags one looks =
      let shard = home_shard (mux_setup shards engines) engine in
      let mine : is_of b r ≡ true = eq-eqb b (book_of r.tags) (sym tags) in
      record {
        is = append_is shard r one;
        line = ap (λ n. let s : Sent = record { shard = shard; local = n } in l.Sent s) (local_own (shard - 1) r (home_within engine) mine);
        machine = append_mine shards books m is b shard r mine ∙ ap (λ e. append_to shard e (own b m)) looks;
        others = λ c ok ne. append_other shards books m is c shard r (ne_eqb c (book_of r.tags) (λ e. ne (e ∙ tags)));
      }

  -- Reads.

  reads_acts : (line alone : Line) → line ≡ alone → Acts shards books m b (mux_done m line) (event_result (own b m) alone)
  reads_acts line alone e = record { is = is; line = e; machine = refl; others = λ c ok ne. refl }

  next_acts : (engine : ℕ) (tag : Tag) (from : Seqnum) → is_own_tag tag ≡ true → Acts shards books m b (mux_happens (mux_setup shards engines) m b (v.Next engine tag from)) (apply_event (mux_setup shards engines) [] (own b m) (v.Next engine tag from))
  next_acts engine tag from small =
      let p = m.physical in
      let both = next_sees b (position p engine) (log p) owned trim_of tag.0 from.0 (ltb-true tag.0 (2 ^ 48) small) in
      reads_acts _ _
      (sym (ap (λ s. found_line s (read_next trim_of tag.0 from.0 s)) (view_is shards books m is b engine)
      ∙ ap (found_line (own_lives b (own_seq b (log p)) (view p engine))) both.0
      ∙ found_own b p owned (position p engine) (read_next trim_of (b * 2 ^ 48 + tag.0) (physical_seq b (log p) from.0) (view p engine)) both.1))

  prev_acts : (engine : ℕ) (tag : Tag) (to : Seqnum) → is_own_tag tag ≡ true → Acts shards books m b (mux_happens (mux_setup shards engines) m b (v.Prev engine tag to)) (apply_event (mux_setup shards engines) [] (own b m) (v.Prev engine tag to))
  prev_acts engine tag to small =
      let p = m.physical in
      let both = prev_sees b (position p engine) (log p) owned trim_of tag.0 to.0 (ltb-true tag.0 (2 ^ 48) small) in
      reads_acts _ _
      (sym (ap (λ s. found_line s (read_prev trim_of tag.0 to.0 s)) (view_is shards books m is b engine)
      ∙ ap (found_line (own_lives b (own_seq b (log p)) (view p engine))) both.0
      ∙ found_own b p owned (position p engine) (read_prev trim_of (b * 2 ^ 48 + tag.0) (physical_seq b (log p) to.0) (view p engine)) both.1))

  tail_acts : (engine : ℕ) (tag : Tag) → is_own_tag tag ≡ true → Acts shards books m b (mux_happens (mux_setup shards engines) m b (v.Tail engine tag)) (apply_event (mux_setup shards engines) [] (own b m) (v.Tail engine tag))
  tail_acts engine tag small =
      let p = m.physical in
      let both = tail_sees b (position p engine) (log p) owned trim_of tag.0 (ltb-true tag.0 (2 ^ 48) small) in
      reads_acts _ _
      (sym (ap (λ s. found_line s (read_prev trim_of tag.0 (position (own b m) engine) s)) (view_is shards books m is b engine)
      ∙ ap (λ n. found_line (own_lives b (own_seq b (log p)) (view p engine)) (read_prev trim_of tag.0 n (own_lives b (own_seq b (log p)) (view p engine)))) (position_own shards books m is b engine)
      ∙ ap (found_line (own_lives b (own_seq b (log p)) (view p engine))) both.0
      ∙ found_own b p owned (position p engine) (read_prev trim_of (b * 2 ^ 48 + tag.0) (position p engine) (view p engine)) both.1))

  settled_acts : (engine shard local : ℕ) → Acts shards books m b (mux_happens (mux_setup shards engines) m b (v.Settled engine shard local)) (apply_event (mux_setup shards engines) [] (own b m) (v.Settled engine shard local))
  settled_acts engine shard local =
      let p = m.physical in
      let o = seq_of shard (physical_local (is_of b) (slice_index_or p.shards (shard - 1) []) local) p.shards p.vectors in
      let both = seq_own (is_of b) own_entry shard local p.shards p.vectors is.grow in
      reads_acts _ _
      (sym (ap (λ s. settle_line (position (own b m) engine) s (seq_of shard local (own b m).shards (own b m).vectors)) (view_is shards books m is b engine)
      ∙ ap (λ n. settle_line n (own_lives b (own_seq b (log p)) (view p engine)) (seq_of shard local (own b m).shards (own b m).vectors)) (position_own shards books m is b engine)
      ∙ ap (settle_line (own_seq b (log p) (position p engine)) (own_lives b (own_seq b (log p)) (view p engine))) both.0
      ∙ settles_own b p owned (position p engine) o both.1))

  -- Auxiliary data.

  within : b - 1 < length m.aux
  within = let w = book_within shards engines books sizes b book in let e = is.booked in omega (arith, w, e)

  uses_acts : (engine seq : ℕ) (text : List ℕ) (line : Line) → Acts shards books m b (mux_done (mux_uses b engine seq text m) line) (event_result (with_aux (own b m) engine seq text) line)
  uses_acts engine seq text line =
      let new = slice_set (book_aux m b) (engine - 1) (move_to_front seq text (engine_aux m b engine)) in
      record {
        is = record { grow = is.grow; most = is.most; whole = is.whole; records = is.records; positions = is.positions; sized = is.sized; booked = length-slice_set m.aux (b - 1) new ∙ is.booked };
        line = refl;
        machine = ap (λ a. let x : Machine = record (own b m) { aux = a } in x) (at_set m.aux (b - 1) new [] within);
        others = λ c ok ne.
            let w = book_within shards engines books sizes b book in
            let u = book_within shards engines books sizes c ok in
            ap (λ a. let x : Machine = record (own c m) { aux = a } in x) (at_other m.aux (b - 1) (c - 1) new [] (λ e. ne (omega (arith, e, w, u))));
      }

  sets_acts : (engine seq : ℕ) (text : List ℕ) → Acts shards books m b (mux_sets b engine seq text m) (set_aux (own b m) engine seq text)
  sets_acts engine seq text =
      subst (λ n. Acts shards books m b (mux_sets b engine seq text m) (cond (leb 1 seq && leb seq n) (event_result (with_aux (own b m) engine seq text) l.Set) (event_result (own b m) l.Absent)))
      (sym (position_own shards books m is b engine)) (at (leb 1 seq && leb seq (own_position b m.physical engine)))
    where
      at : (t : Bool) → Acts shards books m b (cond t (mux_done (mux_uses b engine seq text m) l.Set) (mux_done m l.Absent)) (cond t (event_result (with_aux (own b m) engine seq text) l.Set) (event_result (own b m) l.Absent))
      at true = uses_acts engine seq text l.Set
      at false = reads_acts l.Absent l.Absent refl

  gets_acts : (engine seq : ℕ) (o : Option (List ℕ)) → Acts shards books m b (mux_gets b engine seq o m) (get_aux (own b m) engine seq o)
  gets_acts engine seq None = reads_acts l.Absent l.Absent refl
  gets_acts engine seq (Some text) = uses_acts engine seq text (l.Aux text)

  -- Appends.

  tags_of_book : (tags : List Tag) → are_own_tags tags ≡ true → IsTagged b tags
  tags_of_book tags e =
      let parts = and_parts (leb 1 (length tags)) (list_all is_own_tag tags) e in
      let w = book_within shards engines books sizes b book in
      let most = most_books shards engines books sizes in
      let some = leb-true 1 (length tags) parts.0 in
      tagged b tags (omega (arith, w, most)) (omega (arith, some)) parts.1

  some_tags : (tags : List Tag) → are_own_tags tags ≡ true → 0 < length tags
  some_tags tags e = let some = leb-true 1 (length tags) (and_parts (leb 1 (length tags)) (list_all is_own_tag tags) e).0 in omega (arith, some)

  append_acts : (engine : ℕ) (tags : List Tag) (text : List ℕ) → are_own_tags tags ≡ true
      → Acts shards books m b (mux_happens (mux_setup shards engines) m b (v.Append engine tags text)) (apply_event (mux_setup shards engines) [] (own b m) (v.Append engine tags text))
  append_acts engine tags text small =
      let t = tags_of_book tags small in
      sends_acts engine (log_record (map (book_tag b) tags) None (body.User text)) (log_record tags None (body.User text)) t.book (record { tags = t.owned; condition = tt })
      (ap (λ ts. log_record ts None (body.User text)) t.again)

  cond_acts : (engine place : ℕ) (tags : List Tag) (text : List ℕ) → are_own_tags tags ≡ true
      → Acts shards books m b (mux_happens (mux_setup shards engines) m b (v.Cond engine place tags text)) (apply_event (mux_setup shards engines) [] (own b m) (v.Cond engine place tags text))
  cond_acts engine place tags text small =
      let t = tags_of_book tags small in
      let at : Tag → Cond = λ tag. record { tag = tag; place = place } in
      sends_acts engine (log_record (map (book_tag b) tags) (Some (at (first_tag (map (book_tag b) tags)))) (body.User text)) (log_record tags (Some (at (first_tag tags))) (body.User text)) t.book
      (record { tags = t.owned; condition = refl })
      (ap (λ tag. log_record (map own_tag (map (book_tag b) tags)) (Some (at tag)) (body.User text)) (own_first b tags (some_tags tags small))
      ∙ ap (λ ts. log_record ts (Some (at (first_tag ts))) (body.User text)) t.again)

-- One event of all books.

module _ (shards engines books : ℕ) (m : Mux) (is : IsMux shards books m) where
  cut_is : IsMux shards books (record m { physical = cut m.physical })
  cut_is = at (cuts_nothing m.physical)
    where
      takes : progress m.physical.shards m.physical.counts ≡ map length m.physical.shards
      takes = progress_all m.physical.shards m.physical.counts is.whole

      at : (t : Bool) → IsMux shards books (record m { physical = cond t m.physical (record m.physical { vectors = progress m.physical.shards m.physical.counts ∷ m.physical.vectors }) })
      at true = is
      at false = record {
        grow = (subst (AreAtMost (last_vector m.physical.vectors)) (sym takes) is.most, is.grow);
        most = subst (λ w. AreAtMost w (map length m.physical.shards)) (sym takes) (most_itself (map length m.physical.shards));
        whole = is.whole;
        records = is.records;
        positions =
            each_weaker (λ p. p ≤ length (log m.physical)) _
            (λ p le. let e = length-append (entry_records m.physical.shards (last_vector m.physical.vectors) (progress m.physical.shards m.physical.counts)) (log m.physical) in omega (arith, le, e))
            m.physical.positions is.positions;
        sized = is.sized;
        booked = is.booked;
      }

  catch_is : (engine : ℕ) → IsMux shards books (record m { physical = catch_up engine m.physical })
  catch_is engine = record {
    grow = is.grow;
    most = is.most;
    whole = is.whole;
    records = is.records;
    positions = each_set (λ p. p ≤ length (log m.physical)) (engine - 1) (length (log m.physical)) m.physical.positions (omega arith) is.positions;
    sized = is.sized;
    booked = is.booked;
  }

  restart_is : (engine : ℕ) → IsMux shards books (mux_happens (mux_setup shards engines) m 0 (v.Restart engine)).mux
  restart_is engine = record {
    grow = is.grow;
    most = is.most;
    whole = is.whole;
    records = is.records;
    positions = each_set (λ p. p ≤ length (log m.physical)) (engine - 1) 0 m.physical.positions (omega arith) is.positions;
    sized = is.sized;
    booked = length-mapped (λ lists. slice_set lists (engine - 1) []) m.aux ∙ is.booked;
  }
    where
      length-mapped : {X Y : Type 0} (f : X → Y) (xs : List X) → length (map f xs) ≡ length xs
      length-mapped f [] = refl
      length-mapped f (x ∷ xs) = ap suc (length-mapped f xs)

  module _ (b : ℕ) where
    length-lengths : (ss : List (List (LogRecord Body))) → length (map length ss) ≡ length ss
    length-lengths [] = refl
    length-lengths (s ∷ ss) = ap suc (length-lengths ss)

    with_vectors : (o : Machine) (u : Bool) (x : List (List ℕ)) → (let y : Machine = record o { vectors = cond u o.vectors x } in y) ≡ cond u o (record o { vectors = x })
    with_vectors o true x = refl
    with_vectors o false x = refl

    cut_own : own b (record m { physical = cut m.physical }) ≡ cut (own b m)
    cut_own = at (cuts_nothing m.physical) refl
      where
        sh : List (List (LogRecord Body))
        sh = m.physical.shards

        vs : List (List ℕ)
        vs = m.physical.vectors

        takes : progress m.physical.shards m.physical.counts ≡ map length m.physical.shards
        takes = progress_all m.physical.shards m.physical.counts is.whole

        -- what the book alone would count
        counted : own_vector (is_of b) m.physical.shards (progress m.physical.shards m.physical.counts) ≡ progress (map (own_entries b) m.physical.shards) m.physical.counts
        counted =
            ap (own_vector (is_of b) m.physical.shards) takes ∙ sym (all_vector b m.physical.shards)
            ∙ sym (progress_all (map (own_entries b) m.physical.shards) m.physical.counts is.whole)

        nothing : cuts_nothing m.physical ≡ true → cuts_nothing (own b m) ≡ true
        nothing e =
            ap (λ w. same_counts w (last_vector (own_vectors (is_of b) m.physical.shards m.physical.vectors)))
            (sym counted ∙ vector_same (is_of b) m.physical.shards (progress m.physical.shards m.physical.counts) (last_vector m.physical.vectors) (ap length takes ∙ length-lengths m.physical.shards) e)
            ∙ last_same (is_of b) own_entry m.physical.shards m.physical.vectors

        at : (t : Bool) → cuts_nothing m.physical ≡ t
            → own b (record m { physical = cond t m.physical (record m.physical { vectors = progress m.physical.shards m.physical.counts ∷ m.physical.vectors }) }) ≡ cut (own b m)
        at true e =
            sym (ap (λ u. cond u (own b m) (record (own b m) { vectors = progress (map (own_entries b) m.physical.shards) m.physical.counts ∷ own_vectors (is_of b) m.physical.shards m.physical.vectors })) (nothing e))
        at false e =
            same_machine m.physical (map (own_entries b) m.physical.shards) (map (own_entries b) m.physical.shards) _ _ _ _ (book_aux m b) (book_aux m b)
            refl
            (ap (λ w. cond (same_counts w (last_vector (own_vectors (is_of b) m.physical.shards m.physical.vectors))) (own_vectors (is_of b) m.physical.shards m.physical.vectors) (w ∷ own_vectors (is_of b) m.physical.shards m.physical.vectors)) counted)
            (positions_stay _ (own_seq b (log m.physical)) (length (log m.physical)) m.physical.positions
            (λ n le. count_front b (entry_records m.physical.shards (last_vector m.physical.vectors) (progress m.physical.shards m.physical.counts)) (log m.physical) n le) is.positions)
            refl
            ∙ with_vectors (own b m) (cuts_nothing (own b m)) (progress (map (own_entries b) m.physical.shards) m.physical.counts ∷ own_vectors (is_of b) m.physical.shards m.physical.vectors)

    catch_own : (engine : ℕ) → own b (record m { physical = catch_up engine m.physical }) ≡ catch_up engine (own b m)
    catch_own engine =
        ap (λ ps. let x : Machine = record (own b m) { positions = ps } in x)
        (map_set (own_seq b (log m.physical)) (engine - 1) (length (log m.physical)) m.physical.positions
        ∙ ap (slice_set (map (own_seq b (log m.physical)) m.physical.positions) (engine - 1)) (sym (length_own shards books m is b)))

    restart_own : (engine : ℕ) → own b (mux_happens (mux_setup shards engines) m 0 (v.Restart engine)).mux ≡ restart_engine engine (own b m)
    restart_own engine =
        same_machine (restart_engine engine m.physical) (map (own_entries b) m.physical.shards) (map (own_entries b) m.physical.shards) (own b m).vectors (own b m).vectors _ _ _ _
        refl refl
        (map_set (own_seq b (log m.physical)) (engine - 1) 0 m.physical.positions
        ∙ ap (slice_set (map (own_seq b (log m.physical)) m.physical.positions) (engine - 1)) (count_none (is_of b) (log m.physical)))
        (map_at (λ lists. slice_set lists (engine - 1) []) (b - 1) m.aux [])

-- Any event.

pub not_put : (x : Bool) → (x && false) ≡ true → ⊥
not_put true e = cc
not_put false e = cc

module _ (shards engines books : ℕ) (sizes : are_sizes shards engines books ≡ true) (m : Mux) (is : IsMux shards books m) where
  owned_alone : (b : ℕ) (e : Event) → is_shared e ≡ false → Acts shards books m b (mux_happens (mux_setup shards engines) m b e) (apply_event (mux_setup shards engines) [] (own b m) e) → IsAsAlone shards engines books m (b, e)
  owned_alone b e own_event acts = record {
    is = acts.is;
    answered = λ shared. acts.line;
    concerned = λ c ok hears.
        let same : c ≡ b = eqb-true c b (ap (λ t. t || eqb c b) (sym own_event) ∙ hears) in
        subst (λ d. own d (mux_happens (mux_setup shards engines) m b e).mux ≡ (apply_event (mux_setup shards engines) [] (own d m) e).machine) (sym same) acts.machine;
    others = λ c ok not_heard. acts.others c ok (eqb-false c b (ap (λ t. t || eqb c b) (sym own_event) ∙ not_heard));
  }

  shared_alone : (b : ℕ) (e : Event) → is_shared e ≡ true → IsMux shards books (mux_happens (mux_setup shards engines) m b e).mux
      → ((c : ℕ) → own c (mux_happens (mux_setup shards engines) m b e).mux ≡ (apply_event (mux_setup shards engines) [] (own c m) e).machine) → IsAsAlone shards engines books m (b, e)
  shared_alone b e shared keeps sees = record {
    is = keeps;
    answered = λ own_event. absurd (let h : ⊥ = cc in h);
    concerned = λ c ok hears. sees c;
    others = λ c ok not_heard. absurd (clash (eqb c b) (ap (λ t. t || eqb c b) (sym shared) ∙ not_heard));
  }
    where
      clash : (t : Bool) → (true || t) ≡ false → ⊥
      clash t e = cc

  pub event_alone : (b : ℕ) (e : Event) → is_book_event books (b, e) ≡ true → IsAsAlone shards engines books m (b, e)
  event_alone b v.Cut put = shared_alone b v.Cut refl (cut_is shards engines books m is) (λ c. cut_own shards engines books m is c)
  event_alone b (v.Catch engine) put = shared_alone b (v.Catch engine) refl (catch_is shards engines books m is engine) (λ c. catch_own shards engines books m is c engine)
  event_alone b (v.Restart engine) put = shared_alone b (v.Restart engine) refl (restart_is shards engines books m is engine) (λ c. restart_own shards engines books m is c engine)
  event_alone b (v.Append engine tags text) put =
      let parts = and_parts (is_from_one_to books b) (are_own_tags tags) put in
      owned_alone b (v.Append engine tags text) refl (append_acts shards engines books sizes m is b parts.0 engine tags text parts.1)
  event_alone b (v.Cond engine place tags text) put =
      let parts = and_parts (is_from_one_to books b) (are_own_tags tags) put in
      owned_alone b (v.Cond engine place tags text) refl (cond_acts shards engines books sizes m is b parts.0 engine place tags text parts.1)
  event_alone b (v.Next engine tag from) put =
      let parts = and_parts (is_from_one_to books b) (is_own_tag tag) put in
      owned_alone b (v.Next engine tag from) refl (next_acts shards engines books sizes m is b parts.0 engine tag from parts.1)
  event_alone b (v.Prev engine tag to) put =
      let parts = and_parts (is_from_one_to books b) (is_own_tag tag) put in
      owned_alone b (v.Prev engine tag to) refl (prev_acts shards engines books sizes m is b parts.0 engine tag to parts.1)
  event_alone b (v.Tail engine tag) put =
      let parts = and_parts (is_from_one_to books b) (is_own_tag tag) put in
      owned_alone b (v.Tail engine tag) refl (tail_acts shards engines books sizes m is b parts.0 engine tag parts.1)
  event_alone b (v.Settled engine shard local) put =
      let parts = and_parts (is_from_one_to books b) true put in
      owned_alone b (v.Settled engine shard local) refl (settled_acts shards engines books sizes m is b parts.0 engine shard local)
  event_alone b (v.SetAux engine seq text) put =
      let parts = and_parts (is_from_one_to books b) true put in
      owned_alone b (v.SetAux engine seq text) refl (sets_acts shards engines books sizes m is b parts.0 engine seq.0 text)
  event_alone b (v.GetAux engine seq) put =
      let parts = and_parts (is_from_one_to books b) true put in
      owned_alone b (v.GetAux engine seq) refl (gets_acts shards engines books sizes m is b parts.0 engine seq.0 (aux_at seq.0 (engine_aux m b engine)))
  event_alone b _ put = absurd (not_put (is_from_one_to books b) put)
