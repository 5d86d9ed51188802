-- The next piece of a kind; for private clauses.
use Rattle.std.specs.Prelude.{◌≡◌, ◌-◌, List, [], ◌∷◌, ◌++◌, codes, decimal, length}
use Rattle.std.specs.Prelude.{string_bytes}
use Rattle.elasticlunr_error.specs.Text.{Bytes}
use Rattle.elasticlunr_pieces.specs.Steps.{IsCutAt}
use Rattle.elasticlunr_pieces.specs.declared.cut.Cut.{Cut}
use Rattle.elasticlunr_pieces.specs.declared.cut.Form.{Form}
use Rattle.elasticlunr_pieces.specs.declared.making.Piece.{Piece}
use Rattle.elasticlunr_pieces.specs.declared.progress.Progress.{Progress}

-- the next piece was made, with its name
pub record IsMade (texts : List Bytes) (form : Form) (letter : Bytes) (old new : Progress)
    (piece : Piece) : Type 0 where
  pub cut : Cut
  pub at : IsCutAt texts form old.next cut
  pub text : cut.text ≡ piece.text
  pub next : cut.next ≡ new.next
  pub pending : cut.pending ≡ new.pending
  pub starts : new.starts.items ≡ old.starts.items ++ old.next ∷ []
  pub sizes : new.sizes.items ≡ old.sizes.items ++ length (string_bytes piece.text) ∷ []
  pub counts : new.counts.items ≡ old.counts.items ++ (new.next - old.next) ∷ []
  pub name : string_bytes piece.name ≡ letter ++ (decimal (length old.starts.items) ++ codes
      ".json")

-- nothing that counts has changed
pub record Stays (old new : Progress) : Type 0 where
  pub next : new.next ≡ old.next
  pub pending : new.pending ≡ old.pending
  pub starts : new.starts.items ≡ old.starts.items
  pub sizes : new.sizes.items ≡ old.sizes.items
  pub counts : new.counts.items ≡ old.counts.items
