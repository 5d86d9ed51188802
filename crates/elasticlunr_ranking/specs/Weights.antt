-- The score of a document, as elasticlunr.js computes it.
use Rattle.std.specs.Prelude.{◌≡◌, ◌↔◌, ℕ, ◌+◌, ◌==◌, Bool, true, false, not, cond, ◌&&◌, ◌||◌}
use Rattle.std.specs.Prelude.{List}
use Rattle.std.specs.Prelude.{[], ◌∷◌, Option, Some, None, is_some, option_map, unwrap_or, IsTrue}
use Rattle.std.specs.Prelude.{All}
use Rattle.std.specs.Prelude.{map, length, count_by, nat_le}
use Rattle.std.specs.List.{fold}
use Rattle.std.specs.List.Sorted.{IsStrictlySortedBy}
use Rattle.std.specs.FinMap.{len}
use Rattle.std.specs.Float.{Float, binary64, sqrt}
use Rattle.elasticlunr_error.specs.Text.{Text, Bytes, is_listed, text_cmp}
use Rattle.elasticlunr_trie.specs.Table.{Table, postings, posting}
use Rattle.elasticlunr_trie.specs.Tokens.{IsTokenFrom}
use Rattle.elasticlunr_store.specs.Contents.{field_length}
use Rattle.elasticlunr_store.specs.declared.config.SearchBool.{SearchBool}
use Rattle.elasticlunr_store.specs.declared.config.SearchBool.TheVariants.{Or, And}
use Rattle.elasticlunr_ranking.specs.Doubles.{◌+ᵈ◌, ◌-ᵈ◌, ◌*ᵈ◌, ◌/ᵈ◌, whole}
use Rattle.elasticlunr_ranking.specs.Fields.{Field}
use Rattle.elasticlunr_ranking.specs.Logarithm.{logarithm_of}
use Rattle.elasticlunr_ranking.specs.Numbers.{zero_double, one_double, expanded, first_of_two_units}

-- the words that a token matches: itself, or the tokens that begin with it, in the order of
-- their characters
abbrev pub AreWordsOf : Table → (expand : Bool) → Text → List Text → Type 0
AreWordsOf table false token words = words ≡ token ∷ []
AreWordsOf table true token words = IsStrictlySortedBy text_cmp words
    × ((word : Text) → IsTrue (is_listed word words) ↔ IsTokenFrom table token word)

-- in how many units UTF-16 writes the text
abbrev pub utf16_length_of : Text → ℕ
utf16_length_of text = length text + count_by (λ c. nat_le first_of_two_units c) text

-- how much a word says that `found` of some documents have
abbrev pub idf_of : (documents found : ℕ) → Float
idf_of documents found = one_double +ᵈ logarithm_of (whole documents /ᵈ (whole found +ᵈ one_double))

-- how much a word counts in a field with so many tokens
abbrev pub norm_of : ℕ → Float
norm_of length = cond (length == 0) one_double (one_double /ᵈ sqrt binary64 (whole length))

-- how much a word counts that begins with the token: all where it is no longer, so is the token
abbrev pub penalty_of : (token word : Text) → Float
penalty_of token word =
    let shorter = whole (utf16_length_of token) in
    let length = whole (utf16_length_of word) in
    cond (utf16_length_of word == utf16_length_of token) one_double
    (expanded *ᵈ (one_double -ᵈ (length -ᵈ shorter) /ᵈ length))

-- a sum, from zero, with one part more, if it is there
abbrev pub added : Option Float → Option Float → Option Float
added total None = total
added total (Some x) = Some (unwrap_or total zero_double +ᵈ x)

-- the sum of the parts that are there, if one is
abbrev pub sum_of : List (Option Float) → Option Float
sum_of parts = fold added None parts

-- a document stays that so many of the tokens found
abbrev pub is_enough : SearchBool → (tokens found : ℕ) → Bool
is_enough Or tokens found = true
is_enough And tokens found = found == tokens

-- a score, by the share of the tokens that the document has itself, if it has one
abbrev pub shared : (tokens exact : ℕ) → Float → Float
shared tokens exact score = cond (exact == 0) score (score *ᵈ whole exact /ᵈ whole tokens)

module _ (field : Field) where
  -- what a posting with this frequency weighs
  abbrev pub weight : (idf penalty : Float) → Bytes → ℕ → Float
  weight idf penalty reference frequency = whole frequency *ᵈ idf
      *ᵈ norm_of (field_length field.contents reference field.name) *ᵈ penalty

  -- what a word of the token weighs for the document, if that has it
  abbrev pub part : (token word : Text) → Bytes → Option Float
  part token word reference =
      let idf = idf_of (len field.contents.texts) (len (postings field.table word)) in
      option_map (weight idf (penalty_of token word) reference) (posting field.table word reference)

  -- what the token scores by these words
  abbrev pub token_score : Text → List Text → Bytes → Option Float
  token_score token words reference = sum_of (map (λ word. part token word reference) words)

  -- these are the tokens, each with its words
  abbrev pub AreLookedUp : List Text → List (Text × List Text) → Type 0
  AreLookedUp tokens looked_up = (map (λ t. t.0) looked_up ≡ tokens)
      × All (λ t. AreWordsOf field.table field.expand t.0 t.1) looked_up

  -- the token finds the document, and that by itself
  abbrev pub is_found : Bytes → Text × List Text → Bool
  is_found reference t = is_some (token_score t.0 t.1 reference)

  abbrev pub is_found_itself : Bytes → Text × List Text → Bool
  is_found_itself reference t = is_found reference t && is_some (posting field.table t.0 reference)

  -- what the tokens score for the document, in their order
  abbrev pub tokens_score : List (Text × List Text) → Bytes → Option Float
  tokens_score looked_up reference = sum_of (map (λ t. token_score t.0 t.1 reference) looked_up)

  -- the score, with the share of the tokens and the boost, if enough of the tokens found the
  -- document
  abbrev pub counted : (tokens found exact : ℕ) → Float → Option Float
  counted tokens found exact score =
      cond (field.boost == 0 || not (is_enough field.join tokens found)) None
      (Some (shared tokens exact score *ᵈ whole field.boost))

  abbrev pub counted_if : (tokens found exact : ℕ) → Option Float → Option Float
  counted_if tokens found exact None = None
  counted_if tokens found exact (Some score) = counted tokens found exact score

  -- the score of a document in the field
  abbrev pub field_score : List (Text × List Text) → Bytes → Option Float
  field_score looked_up reference =
      counted_if (length looked_up) (count_by (is_found reference) looked_up)
      (count_by (is_found_itself reference) looked_up)
      (tokens_score looked_up reference)

-- these are the fields, each with the tokens and their words
abbrev pub AreAllLookedUp : List Field → List Text → List (Field × List (Text × List Text)) → Type 0
AreAllLookedUp fields tokens looked_up = (map (λ f. f.0) looked_up ≡ fields)
    × All (λ f. AreLookedUp f.0 tokens f.1) looked_up

-- the score of a document in these fields, in their order
abbrev pub total_score : List (Field × List (Text × List Text)) → Bytes → Option Float
total_score looked_up reference = sum_of (map (λ f. field_score f.0 f.1 reference) looked_up)
