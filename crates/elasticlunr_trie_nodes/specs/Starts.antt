-- Tokens of which a beginning has been walked; for private clauses.
use Rattle.std.specs.Prelude.{◌≡◌, ℕ, ◌++◌, Some}
use Rattle.std.specs.Str.{chars, IsUtf8}
use Rattle.elasticlunr_error.specs.Text.{Text}
use Rattle.elasticlunr_trie_nodes.specs.Trie.{Step, walk}
use Rattle.elasticlunr_trie_nodes.specs.declared.nodes.Place.{Place}
use Rattle.elasticlunr_trie_nodes.specs.declared.nodes.Place.TheVariants.{Root}
use Rattle.elasticlunr_trie_nodes.specs.declared.start.WalkedToken.{WalkedToken}

-- the token and its frequency
abbrev pub told : WalkedToken → Text × ℕ
told s = (chars s.token.now, s.frequency)

-- the known beginning leads to the place, and the rest of the token is left
pub record IsStart (step : Step) (s : WalkedToken) : Type 0 where
  pub known : Text
  pub split : chars s.token.now ≡ known ++ chars s.rest.now
  pub leads : walk step Root known ≡ Some s.place
  pub token : IsUtf8 s.token.now
  pub rest : IsUtf8 s.rest.now

-- where a text led, it still leads
abbrev pub KeepsPaths : Step → Step → Type 0
KeepsPaths old new = (t : Text) (p : Place) → walk old Root t ≡ Some p → walk new Root t ≡ Some p
