use Rattle.std.proofs.Common.{◌≡◌, ◌≢◌, ℕ, List, [], ◌∷◌, Some, cond, is_some, refl, sym, ap, ◌∙◌}
use mathlib.Core.Bool.{false≢true}
use Rattle.std.specs.FinMap.{entries, find, get-entries}
use Rattle.elasticlunr_error.specs.Text.{Text, Bytes, text_cmp}
use Rattle.elasticlunr_json.proofs.Texts.{text_tied}
use Rattle.elasticlunr_trie_nodes.specs.Table.{Table, postings}
use Rattle.elasticlunr_trie.specs.Tokens.{IsToken}
use Rattle.elasticlunr_trie.proofs.laws.tokens_have_postings.Goals as goal

some_from : (T : Table) (t : Text) → IsToken T t → entries (postings T t) ≢ []
some_from T t token none = false≢true (sym
    (ap is_some (get-entries (postings T t) token.0 ∙ ap (find text_cmp token.0) none)) ∙ token.1)

some_to : (T : Table) (t : Text) → entries (postings T t) ≢ [] → IsToken T t
some_to T t some = by (entries (postings T t)) refl
  where
    by : (es : List (Bytes × ℕ)) → entries (postings T t) ≡ es → IsToken T t
    by [] is = absurd (some is)
    by (e ∷ es) is = (
      e.0,
      ap is_some (get-entries (postings T t) e.0 ∙ ap (find text_cmp e.0) is
          ∙ ap (λ b. cond b (Some e.1) (find text_cmp e.0 es)) (text_tied e.0)),
    )

pub returns : goal.returns
returns c T s t = ((λ h. (h.0, some_from T t h.1)), (λ h. (h.0, some_to T t h.1)))
