-- What is told of the known keys.
use Rattle.std.proofs.Common.{◌≡◌, ℕ, suc, ◌≤◌, cond, List, [], ◌∷◌, ◌++◌, append-nil, Option, Some, None, option_map, refl, sym, ap, ◌∙◌}
use Rattle.std.proofs.lemmas.Bool.{le-ltb}
use Rattle.std.proofs.lemmas.List.{append_assoc}
use Rattle.lb_base.specs.declared.value.Value.{Value}
use Rattle.boki_types.specs.declared.body.Body.{Body}
use Rattle.boki_types.specs.declared.store.Fenced.{Fenced}
use Rattle.boki_types.specs.declared.store.Fenced.TheVariants as f
use Rattle.boki_model.specs.Live.{Live}
use Rattle.boki_model.specs.Writes.{Store, last_value_below, fenced_answer, read_free}
use Rattle.boki_machine.specs.Reports.{add_value}
use Rattle.obj_store.specs.declared.answers.Logged.{Logged}
use Rattle.obj_store.specs.Answers.{IsLastLogged, logged_parts}
use Rattle.obj_store.specs.Kept.{StoreState}
use Rattle.obj_store.specs.StandsFor.{StandsFor, last_logged}
use Rattle.store_laws.proofs.Told.{last_is_told}
use Rattle.hm_read.specs.declared.last.LastWrite.{LastWrite}
use Rattle.hm_read.specs.LastWrites.{write_parts}
use Rattle.cluster_report.specs.Folded.{LastWrites}
use Rattle.cluster_report.specs.Told.{IsLast, CanTell, values_upto}

-- the value that a read found
abbrev pub found : Fenced → Option Value
found (f.Found v) = Some v
found f.Missing = None
found f.Gone = None

found_answer : (o : Option Value) → found (fenced_answer o) ≡ o
found_answer None = refl
found_answer (Some v) = refl

found_upto : (key : List ℕ) (last : ℕ) (m : Store) (records : List (Live Body)) → m.floor ≤ last
    → found (read_free key last m records) ≡ last_value_below key (suc last) 0 m records
found_upto key last m records le =
    ap (λ b. found (cond b f.Gone (fenced_answer (last_value_below key (suc last) 0 m records)))) (le-ltb last m.floor le)
    ∙ found_answer (last_value_below key (suc last) 0 m records)

-- what a read found that was told the key's last logged write
pub value_read :
    (last : ℕ) (key name : List ℕ) (w : Option LastWrite) (logged : Option Logged) (kept : StoreState) (read : Fenced) → name ≡ key
    → option_map logged_parts logged ≡ option_map write_parts w
    → ((m : Store) (records : List (Live Body)) → StandsFor kept m records → IsLastLogged name (suc last) kept records logged → read ≡ read_free name last m records)
    → (m : Store) (records : List (Live Body)) → CanTell last kept m records → IsLast last records key w
    → found read ≡ last_value_below key (suc last) 0 m records
value_read last key name w logged kept read same parts reads m records can is_last =
    let told = parts ∙ is_last ∙ ap (λ k. last_logged k (suc last) records) (sym same) in
    let known = last_is_told kept m records name (suc last) logged can.kept.stands can.kept.values told in
    ap found (reads m records can.kept.stands known)
    ∙ ap (λ k. found (read_free k last m records)) same
    ∙ found_upto key last m records can.within

value_apart : (key : List ℕ) (o : Option Value) (xs : List (List ℕ × Value)) → add_value key o xs ≡ add_value key o [] ++ xs
value_apart key None xs = refl
value_apart key (Some v) xs = refl

-- one key more
pub told_more :
    (last : ℕ) (m : Store) (records : List (Live Body)) (key : List ℕ) (w : Option LastWrite) (es : LastWrites) (old new all : List (List ℕ × Value))
    → new ≡ old ++ add_value key (last_value_below key (suc last) 0 m records) []
    → old ++ values_upto last m records ((key, w) ∷ es) ≡ all → new ++ values_upto last m records es ≡ all
told_more last m records key w es old new all is told =
    let rest = values_upto last m records es in
    let o = last_value_below key (suc last) 0 m records in
    ap (λ xs. xs ++ rest) is
    ∙ append_assoc old (add_value key o []) rest
    ∙ ap (λ xs. old ++ xs) (sym (value_apart key o rest))
    ∙ told

-- a read that found nothing told nothing
pub nothing_told : (key : List ℕ) (o : Option Value) (xs : List (List ℕ × Value)) → None ≡ o → xs ≡ xs ++ add_value key o []
nothing_told key o xs is = sym (append-nil xs) ∙ ap (λ (x : Option Value). xs ++ add_value key x []) is
