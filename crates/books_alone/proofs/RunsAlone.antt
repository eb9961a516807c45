-- Any events: the opening, and one event after another.
use Rattle.std.proofs.Common.{◌≡◌, ℕ, zero, suc, ◌-◌, ◌<◌, ◌≤◌, Bool, true, false, cond, eqb, leb, ◌&&◌, ◌||◌, List, [], ◌∷◌, length, map, Option, Some, None, refl, sym, ap, ◌∙◌, arith}
use Rattle.std.specs.List.{AllByRecursion, cons_option}
use Rattle.std.specs.Prelude.{slice_index_or, replicate}
use Rattle.std.proofs.lemmas.Bool.{eqb-true, ne_eqb, and_parts}
use Rattle.boki_types.specs.declared.event.Event.{Event}
use Rattle.boki_types.specs.declared.event.Event.TheVariants as v
use Rattle.boki_types.specs.declared.line.Line.{Line}
use Rattle.boki_types.specs.declared.line.Line.TheVariants as l
use Rattle.boki_model.specs.Plans.{is_from_one_to}
use Rattle.boki_machine.specs.Machine.{Machine, initial_machine, log, apply_event, apply_events, aux_at}
use Rattle.books_alone.specs.Books.{own_entries, own_seq}
use Rattle.books_alone.specs.Mux.{BookEvent, Mux, mux_setup, are_sizes, is_shared, is_owned, is_book_event, mux_opening, mux_happens, mux_run, concerns, concerning, events_of, answers_of_book, on_log, onto_log, engine_aux, own, mux_gets, mux_sets, mux_uses, MuxDone, mux_done, own_position}
use Rattle.books_alone.specs.Laws.{IsOwned, IsMux, OpensAlone, IsAsAlone, AreBookEvents, run_mux, BookIsAlone, LogIsAlone}
use Rattle.books_alone.proofs.EventsAlone.{book_within, event_alone, not_put}

-- The opening.

length-replicate : {X : Type 0} (n : ℕ) (x : X) → length (replicate n x) ≡ n
length-replicate zero x = refl
length-replicate (suc n) x = ap suc (length-replicate n x)

each_replicate : {X : Type 0} (P : X → Type 0) (n : ℕ) (x : X) → P x → AllByRecursion P (replicate n x)
each_replicate P zero x one = tt
each_replicate P (suc n) x one = (one, each_replicate P n x one)

map_replicate : {X Y : Type 0} (f : X → Y) (n : ℕ) (x : X) → map f (replicate n x) ≡ replicate n (f x)
map_replicate f zero x = refl
map_replicate f (suc n) x = ap (λ l. f x ∷ l) (map_replicate f n x)

at_replicate : {X : Type 0} (n i : ℕ) (x d : X) → i < n → slice_index_or (replicate n x) i d ≡ x
at_replicate zero i x d lt = absurd (let h : ⊥ = omega arith in h)
at_replicate (suc n) zero x d lt = refl
at_replicate (suc n) (suc i) x d lt = at_replicate n i x d (omega arith)

pub opens_alone : (shards engines books : ℕ) → are_sizes shards engines books ≡ true → OpensAlone shards engines books
opens_alone shards engines books sizes = record {
  is = record {
    grow = tt;
    most = tt;
    whole = each_replicate (λ c. c ≡ []) shards [] refl;
    records = each_replicate (λ s. AllByRecursion IsOwned s) shards [] tt;
    positions = each_replicate (λ p. p ≤ 0) engines 0 (omega arith);
    sized = length-replicate shards [];
    booked = length-replicate books (replicate engines []);
  };
  each_book = λ b ok.
      let w = book_within shards engines books sizes b ok in
      let lt : b - 1 < books = omega (arith, w) in
      let o = own b (mux_opening shards engines books) in
      ap (λ s. let x : Machine = record o { shards = s } in x) (map_replicate (own_entries b) shards [])
      ∙ ap (λ p. let x : Machine = record o { shards = replicate shards []; positions = p } in x) (map_replicate (own_seq b (log (mux_opening shards engines books).physical)) engines 0)
      ∙ ap (λ a. let x : Machine = record o { shards = replicate shards []; positions = replicate engines 0; aux = a } in x) (at_replicate books (b - 1) (replicate engines []) [] lt);
}

-- One event after another.

module _ (shards engines books : ℕ) (sizes : are_sizes shards engines books ≡ true) (b : ℕ) (book : is_from_one_to books b ≡ true) where
  pub record Follow (xs : List BookEvent) (m : Mux) : Type 0 where
    lines : answers_of_book b xs (mux_run (mux_setup shards engines) xs m).lines ≡ answers_of_book b (concerning b xs) (apply_events (mux_setup shards engines) [] (events_of (concerning b xs)) (own b m)).lines
    machine : own b (mux_run (mux_setup shards engines) xs m).mux ≡ (apply_events (mux_setup shards engines) [] (events_of (concerning b xs)) (own b m)).machine

  -- an event of book b isn't shared
  not_shared : (x : BookEvent) → is_book_event books x ≡ true → eqb b x.0 ≡ true → is_shared x.1 ≡ false
  not_shared x put same = at (is_shared x.1) refl put
    where
      at : (t : Bool) → is_shared x.1 ≡ t → cond t (eqb x.0 0) (is_from_one_to books x.0 && is_owned x.1) ≡ true → is_shared x.1 ≡ false
      at true e z =
          let w = book_within shards engines books sizes b book in
          let g = eqb-true x.0 0 z in
          let h = eqb-true b x.0 same in
          absurd (let k : ⊥ = omega (arith, w, g, h) in k)
      at false e z = e

  heard_first : (x : BookEvent) → eqb b x.0 ≡ true → concerns b x ≡ false → ⊥
  heard_first x same silent = at (is_shared x.1) (eqb b x.0) same silent
    where
      at : (t u : Bool) → u ≡ true → (t || u) ≡ false → ⊥
      at true u e f = cc
      at false u e f = let h : ⊥ = cc in h

  pub follow : (xs : List BookEvent) (m : Mux) → IsMux shards books m → AreBookEvents books xs → Follow xs m
  follow [] m is puts = record { lines = refl; machine = refl }
  follow (x ∷ xs) m is puts =
      let event = event_alone shards engines books sizes m is x.0 x.1 puts.0 in
      at (concerns b x) refl (eqb b x.0) refl event (follow xs (mux_happens (mux_setup shards engines) m x.0 x.1).mux event.is puts.1)
    where
      d : MuxDone
      d = mux_happens (mux_setup shards engines) m x.0 x.1

      lines_from : Machine → List Line
      lines_from a = answers_of_book b (concerning b xs) (apply_events (mux_setup shards engines) [] (events_of (concerning b xs)) a).lines

      alone_lines : Bool → List Line
      alone_lines h = answers_of_book b (cond h (x ∷ concerning b xs) (concerning b xs)) (apply_events (mux_setup shards engines) [] (events_of (cond h (x ∷ concerning b xs) (concerning b xs))) (own b m)).lines

      alone_machine : Bool → Machine
      alone_machine h = (apply_events (mux_setup shards engines) [] (events_of (cond h (x ∷ concerning b xs) (concerning b xs))) (own b m)).machine

      line_is : eqb b x.0 ≡ true → IsAsAlone shards engines books m x → d.line ≡ (apply_event (mux_setup shards engines) [] (own b m) x.1).line
      line_is same event =
          event.answered (not_shared x puts.0 same) ∙ ap (λ c. (apply_event (mux_setup shards engines) [] (own c m) x.1).line) (sym (eqb-true b x.0 same))

      at : (h : Bool) → concerns b x ≡ h → (k : Bool) → eqb b x.0 ≡ k → IsAsAlone shards engines books m x → Follow xs (mux_happens (mux_setup shards engines) m x.0 x.1).mux → Follow (x ∷ xs) m
      at true h true k event rest = record {
        lines =
            ap (λ u. cond u (d.line ∷ answers_of_book b xs (mux_run (mux_setup shards engines) xs d.mux).lines) (answers_of_book b xs (mux_run (mux_setup shards engines) xs d.mux).lines)) k
            ∙ ap (λ l. d.line ∷ l) (rest.lines ∙ ap lines_from (event.concerned b book h))
            ∙ ap (λ l. l ∷ lines_from (apply_event (mux_setup shards engines) [] (own b m) x.1).machine) (line_is k event)
            ∙ sym (ap (λ u. cond u ((apply_event (mux_setup shards engines) [] (own b m) x.1).line ∷ lines_from (apply_event (mux_setup shards engines) [] (own b m) x.1).machine) (lines_from (apply_event (mux_setup shards engines) [] (own b m) x.1).machine)) k)
            ∙ sym (ap alone_lines h);
        machine = rest.machine ∙ ap (λ a. (apply_events (mux_setup shards engines) [] (events_of (concerning b xs)) a).machine) (event.concerned b book h) ∙ sym (ap alone_machine h);
      }
      at true h false k event rest = record {
        lines =
            ap (λ u. cond u (d.line ∷ answers_of_book b xs (mux_run (mux_setup shards engines) xs d.mux).lines) (answers_of_book b xs (mux_run (mux_setup shards engines) xs d.mux).lines)) k
            ∙ rest.lines ∙ ap lines_from (event.concerned b book h)
            ∙ sym (ap (λ u. cond u ((apply_event (mux_setup shards engines) [] (own b m) x.1).line ∷ lines_from (apply_event (mux_setup shards engines) [] (own b m) x.1).machine) (lines_from (apply_event (mux_setup shards engines) [] (own b m) x.1).machine)) k)
            ∙ sym (ap alone_lines h);
        machine = rest.machine ∙ ap (λ a. (apply_events (mux_setup shards engines) [] (events_of (concerning b xs)) a).machine) (event.concerned b book h) ∙ sym (ap alone_machine h);
      }
      at false h true k event rest = absurd (heard_first x k h)
      at false h false k event rest = record {
        lines =
            ap (λ u. cond u (d.line ∷ answers_of_book b xs (mux_run (mux_setup shards engines) xs d.mux).lines) (answers_of_book b xs (mux_run (mux_setup shards engines) xs d.mux).lines)) k
            ∙ rest.lines ∙ ap lines_from (event.others b book h) ∙ sym (ap alone_lines h);
        machine = rest.machine ∙ ap (λ a. (apply_events (mux_setup shards engines) [] (events_of (concerning b xs)) a).machine) (event.others b book h) ∙ sym (ap alone_machine h);
      }

  pub book_alone : (xs : List BookEvent) → AreBookEvents books xs → BookIsAlone shards engines books xs b
  book_alone xs puts =
      let opens = opens_alone shards engines books sizes in
      let both = follow xs (mux_opening shards engines books) opens.is puts in
      record {
        lines = both.lines ∙ ap (λ a. answers_of_book b (concerning b xs) (apply_events (mux_setup shards engines) [] (events_of (concerning b xs)) a).lines) (opens.each_book b book);
        machine = both.machine ∙ ap (λ a. (apply_events (mux_setup shards engines) [] (events_of (concerning b xs)) a).machine) (opens.each_book b book);
      }

-- what a book is answered depends on what it hears
pub books_apart :
    (shards engines few many : ℕ) (xs ys : List BookEvent) (b : ℕ) → are_sizes shards engines few ≡ true → are_sizes shards engines many ≡ true → AreBookEvents few xs → AreBookEvents many ys
    → is_from_one_to few b ≡ true → is_from_one_to many b ≡ true → concerning b xs ≡ concerning b ys → answers_of_book b xs (run_mux shards engines few xs).lines ≡ answers_of_book b ys (run_mux shards engines many ys).lines
books_apart shards engines few many xs ys b sizes others one two book same_book same =
    (book_alone shards engines few sizes b book xs one).lines
    ∙ ap (λ h. answers_of_book b h (apply_events (mux_setup shards engines) [] (events_of h) (initial_machine (mux_setup shards engines) [])).lines) same
    ∙ sym (book_alone shards engines many others b same_book ys two).lines

-- The physical log.

module _ (shards engines books : ℕ) (sizes : are_sizes shards engines books ≡ true) where
  -- what an event does to the log
  abbrev OnLog : Mux → ℕ → Event → Option BookEvent → Type 0
  OnLog m b e None = ((mux_happens (mux_setup shards engines) m b e).mux.physical ≡ m.physical) × (eqb 0 b ≡ false)
  OnLog m b e (Some x) =
      ((mux_happens (mux_setup shards engines) m b e).mux.physical ≡ (apply_event (mux_setup shards engines) [] m.physical x.1).machine)
      × (x.0 ≡ b)
      × (eqb 0 b ≡ true → (mux_happens (mux_setup shards engines) m b e).line ≡ (apply_event (mux_setup shards engines) [] m.physical x.1).line)

  not_zero : (b : ℕ) (y : Bool) → (is_from_one_to books b && y) ≡ true → eqb 0 b ≡ false
  not_zero b y put = let w = book_within shards engines books sizes b (and_parts (is_from_one_to books b) y put).0 in ne_eqb 0 b (λ e. omega (arith, w, e))

  never : {X : Type 0} (b : ℕ) (y : Bool) → (is_from_one_to books b && y) ≡ true → eqb 0 b ≡ true → X
  never b y put e = let f = not_zero b y put in absurd (let h : ⊥ = cc in h)

  sets_physical : (m : Mux) (b engine seq : ℕ) (text : List ℕ) → (mux_sets b engine seq text m).mux.physical ≡ m.physical
  sets_physical m b engine seq text = at (leb 1 seq && leb seq (own_position b m.physical engine))
    where
      at : (t : Bool) → (cond t (mux_done (mux_uses b engine seq text m) l.Set) (mux_done m l.Absent)).mux.physical ≡ m.physical
      at true = refl
      at false = refl

  gets_physical : (m : Mux) (b engine seq : ℕ) (o : Option (List ℕ)) → (mux_gets b engine seq o m).mux.physical ≡ m.physical
  gets_physical m b engine seq None = refl
  gets_physical m b engine seq (Some text) = refl

  on_log_is : (m : Mux) (b : ℕ) (e : Event) → is_book_event books (b, e) ≡ true → OnLog m b e (on_log b e)
  on_log_is m b v.Cut put = (refl, refl, λ zero. refl)
  on_log_is m b (v.Catch engine) put = (refl, refl, λ zero. refl)
  on_log_is m b (v.Restart engine) put = (refl, refl, λ zero. refl)
  on_log_is m b (v.Append engine tags text) put = (refl, refl, λ zero. never b _ put zero)
  on_log_is m b (v.Cond engine place tags text) put = (refl, refl, λ zero. never b _ put zero)
  on_log_is m b (v.Next engine tag from) put = (refl, not_zero b _ put)
  on_log_is m b (v.Prev engine tag to) put = (refl, not_zero b _ put)
  on_log_is m b (v.Tail engine tag) put = (refl, not_zero b _ put)
  on_log_is m b (v.Settled engine shard local) put = (refl, not_zero b _ put)
  on_log_is m b (v.SetAux engine seq text) put = (sets_physical m b engine seq.0 text, not_zero b _ put)
  on_log_is m b (v.GetAux engine seq) put = (gets_physical m b engine seq.0 (aux_at seq.0 (engine_aux m b engine)), not_zero b _ put)
  on_log_is m b _ put = absurd (not_put (is_from_one_to books b) put)

  record Logs (xs : List BookEvent) (m : Mux) : Type 0 where
    lines : answers_of_book 0 xs (mux_run (mux_setup shards engines) xs m).lines ≡ answers_of_book 0 (onto_log xs) (apply_events (mux_setup shards engines) [] (events_of (onto_log xs)) m.physical).lines
    machine : (mux_run (mux_setup shards engines) xs m).mux.physical ≡ (apply_events (mux_setup shards engines) [] (events_of (onto_log xs)) m.physical).machine

  logs : (xs : List BookEvent) (m : Mux) → AreBookEvents books xs → Logs xs m
  logs [] m puts = record { lines = refl; machine = refl }
  logs (x ∷ xs) m puts = at (on_log x.0 x.1) refl (on_log_is m x.0 x.1 puts.0) (logs xs (mux_happens (mux_setup shards engines) m x.0 x.1).mux puts.1)
    where
      d : MuxDone
      d = mux_happens (mux_setup shards engines) m x.0 x.1

      all : Option BookEvent → List BookEvent
      all o = cons_option o (onto_log xs)

      log_lines : List BookEvent → Machine → List Line
      log_lines ys a = answers_of_book 0 ys (apply_events (mux_setup shards engines) [] (events_of ys) a).lines

      log_machine : List BookEvent → Machine → Machine
      log_machine ys a = (apply_events (mux_setup shards engines) [] (events_of ys) a).machine

      first : (y : BookEvent) (k : Bool) → eqb 0 x.0 ≡ k → y.0 ≡ x.0 → (eqb 0 x.0 ≡ true → d.line ≡ (apply_event (mux_setup shards engines) [] m.physical y.1).line) → (l : List Line)
          → cond (eqb 0 x.0) (d.line ∷ l) l ≡ cond (eqb 0 y.0) ((apply_event (mux_setup shards engines) [] m.physical y.1).line ∷ l) l
      first y true e same line l =
          ap (λ u. cond u (d.line ∷ l) l) e ∙ ap (λ k. k ∷ l) (line e)
          ∙ sym (ap (λ u. cond u ((apply_event (mux_setup shards engines) [] m.physical y.1).line ∷ l) l) (ap (eqb 0) same ∙ e))
      first y false e same line l =
          ap (λ u. cond u (d.line ∷ l) l) e
          ∙ sym (ap (λ u. cond u ((apply_event (mux_setup shards engines) [] m.physical y.1).line ∷ l) l) (ap (eqb 0) same ∙ e))

      at : (o : Option BookEvent) → on_log x.0 x.1 ≡ o → OnLog m x.0 x.1 o → Logs xs (mux_happens (mux_setup shards engines) m x.0 x.1).mux → Logs (x ∷ xs) m
      at None e on rest = record {
        lines =
            ap (λ u. cond u (d.line ∷ answers_of_book 0 xs (mux_run (mux_setup shards engines) xs d.mux).lines) (answers_of_book 0 xs (mux_run (mux_setup shards engines) xs d.mux).lines)) on.1
            ∙ rest.lines ∙ ap (log_lines (onto_log xs)) on.0 ∙ sym (ap (λ o. log_lines (all o) m.physical) e);
        machine = rest.machine ∙ ap (log_machine (onto_log xs)) on.0 ∙ sym (ap (λ o. log_machine (all o) m.physical) e);
      }
      at (Some y) e on rest = record {
        lines =
            first y (eqb 0 x.0) refl on.1 on.2 (answers_of_book 0 xs (mux_run (mux_setup shards engines) xs d.mux).lines)
            ∙ ap (λ l. cond (eqb 0 y.0) ((apply_event (mux_setup shards engines) [] m.physical y.1).line ∷ l) l) (rest.lines ∙ ap (log_lines (onto_log xs)) on.0)
            ∙ sym (ap (λ o. log_lines (all o) m.physical) e);
        machine = rest.machine ∙ ap (log_machine (onto_log xs)) on.0 ∙ sym (ap (λ o. log_machine (all o) m.physical) e);
      }

  pub shared_of_log : (xs : List BookEvent) → AreBookEvents books xs → LogIsAlone shards engines books xs
  shared_of_log xs puts = let both = logs xs (mux_opening shards engines books) puts in record { lines = both.lines; machine = both.machine }
