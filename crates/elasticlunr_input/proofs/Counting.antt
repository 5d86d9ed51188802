-- What is counted of an index, and its documents without a token.
use Rattle.std.proofs.Common.{◌≡◌, ◌||◌, Bool, List, [], ◌∷◌, String, Global, string_bytes, refl, ap, sym, subst}
use Rattle.std.proofs.Common.{Option, None, Some, ℕ, ◌∙◌}
use Rattle.std.specs.Prelude.{IsSomeAnd}
use Rattle.std.specs.List.{list_any}
use Rattle.elasticlunr_text.specs.Text.{Bytes, bytes_of}
use Rattle.elasticlunr.specs.History.{Commands}
use Rattle.elasticlunr.specs.Standing.{Plan}
use Rattle.elasticlunr_input.specs.Counts.{AreCounts, HasCounts}
use Rattle.elasticlunr_input.specs.declared.counts.Counts.{Counts}
use Rattle.elasticlunr_input.specs.Warnings.{EndWithWordless, WarnOfWordless}

-- a test of the bytes of strings, and of the strings
pub any_of_names : (test : Bytes → Bool) (names : List (String Global))
    → list_any (λ name. test (string_bytes name)) names ≡ list_any test (bytes_of names)
any_of_names test [] = refl
any_of_names test (name ∷ names) = ap (λ b. test (string_bytes name) || b) (any_of_names test names)

-- what holds of the parts of contents holds of what is the same as they are
pub held : {X A B : Type 0} (contents : Option X) (f : X → A) (g : X → B) (a : A) (b : B) (Is : A → B → Type 0)
    → ((x : A) (y : B) → IsSomeAnd contents (λ v. (f v ≡ x) × (g v ≡ y)) → (a ≡ x) × (b ≡ y))
    → IsSomeAnd contents (λ v. Is (f v) (g v)) → Is a b
held None f g a b Is same holds = absurd holds
held (Some v) f g a b Is same holds =
    let are = same (f v) (g v) (refl, refl) in
    subst (λ x. Is x b) (sym are.0) (subst (Is (f v)) (sym are.1) holds)

-- the counts that were noted
pub counts_noted : (plan : Plan) (commands : Commands) (counts : Counts) (documents tokens : ℕ)
    → documents ≡ counts.documents → tokens ≡ counts.tokens → AreCounts plan commands counts
    → HasCounts plan commands documents tokens
counts_noted plan commands counts documents tokens is are (tables, kept, holds, count, rest) = (
  tables,
  kept,
  holds,
  record {
    documents_are = is ∙ count.documents_are;
    tokens_are = (count.tokens_are.0, count.tokens_are.1, are ∙ count.tokens_are.2);
  },
)

-- the warnings of the documents without a token, which were added to those before them
pub wordless_noted : (plan : Plan) (commands : Commands) (counts : Counts) (earlier warnings : List Bytes)
    → WarnOfWordless (bytes_of counts.without_token.items) earlier warnings → AreCounts plan commands counts
    → EndWithWordless plan commands earlier warnings
wordless_noted plan commands counts earlier warnings warn (tables, kept, holds, count, are) = (
  tables,
  kept,
  holds,
  subst (λ references. WarnOfWordless references earlier warnings) are warn,
)
