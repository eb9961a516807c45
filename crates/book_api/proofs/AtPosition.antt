-- Reads at an engine's position, by what is found.
use Rattle.std.proofs.Common.{◌≡◌, ℕ, ◌<◌, ◌≤◌, Bool, cond, List, Option, Some, None, sym, ap, ◌∙◌}
use Rattle.std.proofs.lemmas.Bool.{lt-ltb, le-ltb, le-leb, lt-leb}
use Rattle.boki_types.specs.declared.log.Settle.TheVariants.{Placed, Taken}
use Rattle.boki_model.specs.Live.{Live, is_live}
use Rattle.boki_model.specs.Reads.{unless_hidden}
use Rattle.boki_machine.specs.Step.{seqnum}
use Rattle.book_api.specs.Books.{settle_of}

pub prev_none : (h : ℕ) (o : Option ℕ) → o ≡ None → None ≡ unless_hidden h o
prev_none h o is = ap (unless_hidden h) (sym is)

pub prev_hidden : (h s : ℕ) (o : Option ℕ) → o ≡ Some s → s ≤ h → None ≡ unless_hidden h o
prev_hidden h s o is le = sym (ap (unless_hidden h) is ∙ ap (λ b. cond b (Some s) None) (le-ltb h s le))

pub prev_shown : (h s : ℕ) (o : Option ℕ) → o ≡ Some s → h < s → Some s ≡ unless_hidden h o
prev_shown h s o is lt = sym (ap (unless_hidden h) is ∙ ap (λ b. cond b (Some s) None) (lt-ltb h s lt))

module _ (p : ℕ) (view : List (Live (List ℕ))) where
  pub settle_none : (o : Option ℕ) → o ≡ None → None ≡ settle_of p view o
  settle_none o is = ap (settle_of p view) (sym is)

  pub settle_later : (seq : ℕ) (o : Option ℕ) → o ≡ Some seq → p < seq → None ≡ settle_of p view o
  settle_later seq o is lt =
      sym (ap (settle_of p view) is ∙ ap (λ b. cond b (Some (cond (is_live seq view) (Placed (seqnum seq)) (Taken (seqnum seq)))) None) (lt-leb seq p lt))

  pub settle_known : (seq : ℕ) (o : Option ℕ) (t : Bool) → o ≡ Some seq → seq ≤ p → is_live seq view ≡ t → Some (cond t (Placed (seqnum seq)) (Taken (seqnum seq))) ≡ settle_of p view o
  settle_known seq o t is le lives =
      sym
      (
      ap (settle_of p view) is
      ∙ ap (λ b. cond b (Some (cond (is_live seq view) (Placed (seqnum seq)) (Taken (seqnum seq)))) None) (le-leb seq p le)
      ∙ ap (λ b. Some (cond b (Placed (seqnum seq)) (Taken (seqnum seq)))) lives
      )
