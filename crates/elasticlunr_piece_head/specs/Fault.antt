-- Why a text isn't the head of an index in pieces.
use Rattle.std.specs.Prelude.{◌≡◌, ◌≢◌, ◌⊎◌, ℕ, Bool, List, Option, None, Some, codes}
use Rattle.std.specs.List.{AllPairs}
use Rattle.std.specs.List.Sorted.{IsStrictlySortedBy}
use Rattle.serde_json.specs.Data.{Data, boolean, string}
use Rattle.serde_json.specs.Find.{get}
use Rattle.serde_json.specs.Read.{read}
use Rattle.elasticlunr_error.specs.Text.{Bytes, text_cmp}
use Rattle.elasticlunr_json.specs.Maps.{count}
use Rattle.elasticlunr_piece_head.specs.Fit.{FitLengths, FitSizes, FitTexts, FitTitles}
use Rattle.elasticlunr_piece_head.specs.Head.{Says}
use Rattle.elasticlunr_piece_head.specs.Values.{Has, array_of, length_value}
use Rattle.elasticlunr_piece_head.specs.declared.fault.HeadFault.{HeadFault}
use Rattle.elasticlunr_piece_head.specs.declared.fault.HeadFault.TheVariants.{NotRead, Older}
use Rattle.elasticlunr_piece_head.specs.declared.fault.HeadFault.TheVariants.{Member, Memory}
use Rattle.elasticlunr_piece_head.specs.declared.head.PieceHead.{PieceHead}

-- a text stands under this key
abbrev pub IsTextKey : Bytes → Type 0
IsTextKey key = (key ≡ codes "folder") ⊎ (key ≡ codes "lang") ⊎ (key ≡ codes "ref")

-- texts that rise
abbrev pub IsRisingKey : Bytes → Type 0
IsRisingKey key = (key ≡ codes "references") ⊎ (key ≡ codes "tries")

-- numbers
abbrev pub IsNumbersKey : Bytes → Type 0
IsNumbersKey key = (key ≡ codes "sizes") ⊎ (key ≡ codes "texts") ⊎ (key ≡ codes "titles")

-- the member under this key has another number of items than the others ask for
pub data DoesNotFit (head : PieceHead) : (key : Bytes) → Type 0 where
  other_lengths : ¬ FitLengths head → DoesNotFit head (codes "lengths")
  other_texts : ¬ FitTexts head → DoesNotFit head (codes "texts")
  other_titles : ¬ FitTitles head → DoesNotFit head (codes "titles")
  other_sizes : ¬ FitSizes head → DoesNotFit head (codes "sizes")

-- The member of a value under this key is missing or has another form, as names that come twice and
-- texts that don't rise, or doesn't fit the others.
pub data IsMisfit (v : Data) : (key : Bytes) → Type 0 where
  no_text : {key : Bytes} → IsTextKey key → ((text : Bytes) → ¬ Has v key (string text))
      → IsMisfit v key
  no_stages : ((stages : List Bytes) → ¬ Has v (codes "pipeline") (array_of string stages))
      → IsMisfit v (codes "pipeline")
  no_names : ((names : List Bytes) → Has v (codes "fields") (array_of string names)
      → ¬ AllPairs (λ name other. name ≢ other) names) → IsMisfit v (codes "fields")
  no_rising_texts : {key : Bytes} → IsRisingKey key
      → ((texts : List Bytes) → Has v key (array_of string texts)
      → ¬ IsStrictlySortedBy text_cmp texts) → IsMisfit v key
  no_numbers : {key : Bytes} → IsNumbersKey key
      → ((numbers : List ℕ) → ¬ Has v key (array_of count numbers)) → IsMisfit v key
  no_lengths : ((columns : List (List (Option ℕ)))
      → ¬ Has v (codes "lengths") (array_of (array_of length_value) columns))
      → IsMisfit v (codes "lengths")
  no_choice : ((save : Bool) → ¬ Has v (codes "save") (boolean save)) → IsMisfit v (codes "save")
  unfit : {key : Bytes} → (head : PieceHead) → Says v head → DoesNotFit head key → IsMisfit v key

-- why a value isn't that of a head; for private clauses
abbrev pub IsValueFault : Data → HeadFault → Type 0
IsValueFault v NotRead = ⊥
IsValueFault v Older = get (codes "sizes") v ≡ None
IsValueFault v (Member key) = IsMisfit v key.now
IsValueFault v Memory = Unit {0}

-- Why a text isn't a head: it is no JSON, or it has no sizes, or a member is at fault.
abbrev pub IsHeadFault : Bytes → HeadFault → Type 0
IsHeadFault text NotRead = read text ≡ None
IsHeadFault text Older = (v : Data) × (read text ≡ Some v) × (get (codes "sizes") v ≡ None)
IsHeadFault text (Member key) = (v : Data) × (read text ≡ Some v) × IsMisfit v key.now
IsHeadFault text Memory = Unit {0}

-- memory was refused, or the member under this key is at fault, and then P; for private clauses
abbrev pub IsOfMember : (key : Bytes) → Type 0 → HeadFault → Type 0
IsOfMember key P NotRead = ⊥
IsOfMember key P Older = ⊥
IsOfMember key P (Member other) = (other.now ≡ key) × P
IsOfMember key P Memory = Unit {0}

-- a member has another number of items than the others ask for; for private clauses
abbrev pub IsUnfit : PieceHead → HeadFault → Type 0
IsUnfit head NotRead = ⊥
IsUnfit head Older = ⊥
IsUnfit head (Member key) = DoesNotFit head key.now
IsUnfit head Memory = ⊥

-- why a value has no sizes; for private clauses
abbrev pub IsSizesFault : Data → HeadFault → Type 0
IsSizesFault v NotRead = ⊥
IsSizesFault v Older = get (codes "sizes") v ≡ None
IsSizesFault v (Member key) = (key.now ≡ codes "sizes")
    × ((sizes : List ℕ) → ¬ Has v (codes "sizes") (array_of count sizes))
IsSizesFault v Memory = Unit {0}
