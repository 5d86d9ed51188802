-- On where tokens lead, as a trie remembers it.
use Rattle.std.proofs.Common.{◌≡◌, ℕ, List, [], ◌++◌, length, Some, sym, ap, ◌∙◌, append-nil}
use Rattle.std.specs.Str.{chars}
use Rattle.std.proofs.lemmas.Str.{chars-nil}
use Rattle.elasticlunr_trie_nodes.specs.Starts.{IsStart, KeepsPaths}
use Rattle.elasticlunr_trie_nodes.specs.Trie.{Step, walk}
use Rattle.elasticlunr_trie_nodes.specs.declared.nodes.Place.TheVariants.{Root, At}
use Rattle.elasticlunr_trie_nodes.specs.declared.start.WalkedToken.{WalkedToken}
use Rattle.elasticlunr_trie_nodes.proofs.Letters.{all_read}
use Rattle.elasticlunr_trie.specs.declared.inverted_index.ends.TokenCache.{TokenCache}
use Rattle.elasticlunr_trie.specs.TokenCache.{AreEnds}

-- where paths stay, so do ends
pub ends_kept : (old new : Step) (ends : TokenCache) → KeepsPaths old new → AreEnds old ends → AreEnds new ends
ends_kept old new ends keeps are = λ i d inside taken. keeps _ _ (are i d inside taken)

-- a token of which nothing is left leads to its place
pub start_end : (step : Step) (s : WalkedToken) (k : ℕ) → IsStart step s → length s.rest.now ≡ 0 → s.place ≡ At k
    → walk step Root (chars s.token.now) ≡ Some (At k)
start_end step s k is none at = ap (walk step Root) (all_read (chars s.token.now) is.known s.rest.now is.split none)
    ∙ is.leads ∙ ap (λ p. Some p) at

-- the whole token before nothing
pub all_known : (token : List ℕ) → chars token ≡ chars token ++ chars []
all_known token = sym (ap (λ t. chars token ++ t) chars-nil ∙ append-nil (chars token))
