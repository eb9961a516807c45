-- Auxiliary data.
use Rattle.std.proofs.Common.{◌≡◌, ◌∙◌, ℕ, ◌-◌, ◌&&◌, Bool, true, false, cond, leb, List, [], Option, Some, None, refl, sym, ap, subst}
use Rattle.std.specs.Prelude.{slice_index, slice_index_or, slice_set}
use Rattle.std.specs.Option.{option_map_or}
use Rattle.std.specs.Str.{IsUtf8}
use Rattle.std.proofs.Math.Nat.{le_refl}
use Rattle.lb_base.specs.declared.value.Seqnum.{Seqnum}
use Rattle.boki_types.specs.declared.event.Event.TheVariants as event
use Rattle.boki_types.specs.declared.line.Line.TheVariants as line
use Rattle.boki_types.specs.declared.plan.Setup.{Setup}
use Rattle.boki_types.specs.declared.program.Function.{Function}
use Rattle.boki_model.specs.Plans.{is_event}
use Rattle.boki_machine.specs.Machine as machine
use Rattle.boki_machine.specs.Machine.{Machine, Aux, aux_at, move_to_front, event_result, apply_event}
use Rattle.machine_laws.proofs.Texts.{engines_see_texts}
use Rattle.book_api.specs.Books.{position, aux_of, with_aux, is_covered, after_set, after_get}
use Rattle.flow_parts.specs.declared.parts.Parts.{Parts}
use Rattle.cluster_events.specs.Lines.{line_of_set, line_of_aux, HasUtf8}
use Rattle.cluster_events.specs.Machines.{PartsAreOf, IsEventDone}
use Rattle.cluster_events.proofs.Done.{IsBookMoved, positions_within, book_done, not_moved}

module _ (setup : Setup) (fs : List Function) (m : Machine) (old : Parts) (are : PartsAreOf setup fs m old) (engine : ℕ) where
  aux_same : machine.aux_of m engine ≡ aux_of old.book engine
  aux_same = ap (λ (aux : List (List Aux)). slice_index_or aux (engine - 1) []) are.book.aux

  position_same : machine.position m engine ≡ position old.book engine
  position_same = ap (λ (ps : List ℕ). slice_index ps (engine - 1)) are.book.positions

  -- data are put in front
  used : (seq : ℕ) (text : List ℕ) → IsBookMoved setup m (machine.with_aux m engine seq text) old.book (with_aux engine seq text old.book)
  used seq text = record {
    book = record {
      shards = are.book.shards;
      counts = are.book.counts;
      vectors = are.book.vectors;
      positions = are.book.positions;
      aux = ap (λ (aux : List (List Aux)). slice_set aux (engine - 1) (move_to_front seq text (slice_index_or aux (engine - 1) []))) are.book.aux;
    };
    store = refl;
    replicas = are.replicas;
    sound = are.stand.kept.sound;
    shards = refl;
    engines = refl;
    grows = record { news = []; log_is = refl; within = positions_within setup fs m old are; rise = λ e. le_refl (position old.book e) };
  }

  -- They are set.
  module _ (seq : Seqnum) (text : List ℕ) (valid : is_event setup fs (event.SetAux engine seq text) ≡ true) (utf8 : IsUtf8 text) where
    covered_same : (leb 1 seq.0 && leb seq.0 (machine.position m engine)) ≡ is_covered old.book engine seq.0
    covered_same = ap (λ p. leb 1 seq.0 && leb seq.0 p) position_same

    set_moved : (t : Bool) → IsBookMoved setup m (cond t (event_result (machine.with_aux m engine seq.0 text) line.Set) (event_result m line.Absent)).machine old.book (cond t (with_aux engine seq.0 text old.book) old.book)
    set_moved true = used seq.0 text
    set_moved false = not_moved setup fs m old are

    set_line : (t : Bool) → line_of_set t ≡ (cond t (event_result (machine.with_aux m engine seq.0 text) line.Set) (event_result m line.Absent)).line
    set_line true = refl
    set_line false = refl

    pub set_done : IsEventDone setup fs (event.SetAux engine seq text) m (record old { book = after_set engine seq.0 text old.book }) (line_of_set (is_covered old.book engine seq.0))
    set_done =
        let result = (λ (t : Bool). cond t (event_result (machine.with_aux m engine seq.0 text) line.Set) (event_result m line.Absent)) in
        book_done setup fs m old are (event.SetAux engine seq text) (record { valid = valid; bytes = refl; text = utf8 }) tt (after_set engine seq.0 text old.book) (line_of_set (is_covered old.book engine seq.0))
        (set_line (is_covered old.book engine seq.0) ∙ ap (λ (t : Bool). (result t).line) (sym covered_same))
        (subst (λ (t : Bool). IsBookMoved setup m (result t).machine old.book (after_set engine seq.0 text old.book)) (sym covered_same) (set_moved (is_covered old.book engine seq.0)))

  -- They are given.
  module _ (seq : Seqnum) (valid : is_event setup fs (event.GetAux engine seq) ≡ true) where
    found_same : aux_at seq.0 (machine.aux_of m engine) ≡ aux_at seq.0 (aux_of old.book engine)
    found_same = ap (aux_at seq.0) aux_same

    get_moved : (found : Option (List ℕ)) → IsBookMoved setup m (machine.get_aux m engine seq.0 found).machine old.book (option_map_or (λ bytes. with_aux engine seq.0 bytes old.book) found old.book)
    get_moved None = not_moved setup fs m old are
    get_moved (Some text) = used seq.0 text

    get_line : (found : Option (List ℕ)) → line_of_aux found ≡ (machine.get_aux m engine seq.0 found).line
    get_line None = refl
    get_line (Some text) = refl

    pub get_done : IsEventDone setup fs (event.GetAux engine seq) m (record old { book = after_get engine seq.0 old.book }) (line_of_aux (aux_at seq.0 (aux_of old.book engine)))
    get_done =
        book_done setup fs m old are (event.GetAux engine seq) (record { valid = valid; bytes = refl; text = tt }) tt (after_get engine seq.0 old.book) (line_of_aux (aux_at seq.0 (aux_of old.book engine)))
        (get_line (aux_at seq.0 (aux_of old.book engine)) ∙ ap (λ (found : Option (List ℕ)). (machine.get_aux m engine seq.0 found).line) (sym found_same))
        (subst (λ (found : Option (List ℕ)). IsBookMoved setup m (machine.get_aux m engine seq.0 found).machine old.book (after_get engine seq.0 old.book)) (sym found_same)
        (get_moved (aux_at seq.0 (aux_of old.book engine))))

    -- what is given is text
    text_at : (found : Option (List ℕ)) → ((text : List ℕ) → found ≡ Some text → IsUtf8 text) → HasUtf8 found
    text_at None is = tt
    text_at (Some text) is = is text refl

    pub aux_is_text : HasUtf8 (aux_at seq.0 (aux_of old.book engine))
    aux_is_text = text_at (aux_at seq.0 (aux_of old.book engine)) (λ text e. (engines_see_texts m engine are.kept.texts).aux seq.0 text (found_same ∙ e))
