-- The pieces that were made so far, and their files.
use Rattle.std.proofs.Common.{◌≡◌, ◌⊎◌, inl, inr, ◌<◌, ◌≤◌, ◌+◌, ◌-◌, ◌/◌, ℕ, suc, List, [], ◌∷◌, ◌++◌, length, drop, map}
use Rattle.std.proofs.Common.{sym, ap, subst, ◌∙◌, append_assoc, append-nil, arith, codes, decimal, string_bytes}
use Rattle.std.proofs.Common.{length-append, Bor, Option, None, Some}
use Rattle.std.proofs.lemmas.List.{length-map, map-append}
use Rattle.elasticlunr_error.specs.Text.{Bytes, bytes_of}
use Rattle.elasticlunr_store.specs.Contents.{TextMap}
use Rattle.elasticlunr_print.specs.declared.parts.Parts.{Parts}
use Rattle.elasticlunr_pieces.specs.Cut.{entries_in, IsCutTo}
use Rattle.elasticlunr_pieces.specs.Entries.{AreTokens, documents_text, kept_documents, titles_text}
use Rattle.elasticlunr_pieces.specs.Numbers.{told_documents, told_texts}
use Rattle.elasticlunr_pieces.specs.Pieces.{ArePieces, HasMade, IsFile, IsHead, IsNext, titles_in, tokens_text}
use Rattle.elasticlunr_pieces.specs.Pieces.{MakesTexts, MakesTitles, MakesTries}
use Rattle.elasticlunr_pieces.specs.declared.making.Piece.{Piece}
use Rattle.elasticlunr_pieces.specs.declared.making.Pieces.{Pieces}
use Rattle.elasticlunr_pieces.proofs.OneCut.{one_order}
use Rattle.elasticlunr_in_pieces.specs.Folder.{File, HasFolder, file_at, file_told, files_from, files_of}
use Rattle.elasticlunr_in_pieces.specs.declared.all.InPieces.{InPieces}

module _ {A : Type 0} where
  sum_more : (groups : List (List A)) (g : List A) → entries_in (groups ++ g ∷ []) ≡ entries_in groups + length g
  sum_more [] g = omega arith
  sum_more (h ∷ groups) g = let more = sum_more groups g in omega (arith, more)

  -- a group has an entry, and the groups have no more of them than there are
  cut_within : (text_of : List A → Bytes) (size : ℕ) (entries : List A) (groups : List (List A)) (g left : List A)
      → IsCutTo text_of size entries (groups ++ g ∷ []) left
      → (0 < length g) × (entries_in groups + length g ≤ length entries)
  cut_within text_of size entries [] g left (more, split, is, cut) =
      let long : length entries ≡ length g + length more = ap length split ∙ length-append g more in
      (is.some, omega (arith, long))
  cut_within text_of size entries (h ∷ groups) g left (more, split, is, cut) =
      let below = cut_within text_of size more groups g left cut in
      let within = below.1 in
      let long : length entries ≡ length h + length more = ap length split ∙ length-append h more in
      (below.0, omega (arith, long, within))

  -- one file more
  files_more : (letter : Bytes) (text_of : List A → Bytes) (n : ℕ) (groups : List (List A)) (g : List A)
      → files_from letter text_of n (groups ++ g ∷ [])
      ≡ files_from letter text_of n groups ++ file_at letter (n + length groups) (text_of g) ∷ []
  files_more letter text_of n [] g =
      let number : n ≡ n + 0 = omega arith in
      ap (λ (m : ℕ). file_at letter m (text_of g) ∷ []) number
  files_more letter text_of n (h ∷ groups) g =
      let number : suc n + length groups ≡ n + suc (length groups) = omega arith in
      ap (λ (files : List File). file_at letter n (text_of h) ∷ files) (files_more letter text_of (suc n) groups g
      ∙ ap (λ (m : ℕ). files_from letter text_of (suc n) groups ++ file_at letter m (text_of g) ∷ []) number)

  file_is : (letter : Bytes) (text_of : List A → Bytes) (groups : List (List A)) (g : List A) (piece : Piece)
      → IsFile letter (length groups) (text_of g) piece
      → file_at letter (0 + length groups) (text_of g) ≡ file_told piece
  file_is letter text_of groups g piece is =
      let number : 0 + length groups ≡ length groups = omega arith in
      let name : letter ++ (decimal (0 + length groups) ++ codes ".json") ≡ string_bytes piece.name =
      ap (λ (m : ℕ). letter ++ (decimal m ++ codes ".json")) number ∙ sym is.name in
      let text : text_of g ≡ string_bytes piece.text = sym is.text in
      λ i. (name i, text i)

  -- the files of one kind, with the file of a piece more
  pub files_then : (letter : Bytes) (text_of : List A → Bytes) (groups : List (List A)) (g : List A) (piece : Piece)
      → IsFile letter (length groups) (text_of g) piece
      → files_from letter text_of 0 (groups ++ g ∷ []) ≡ files_from letter text_of 0 groups ++ file_told piece ∷ []
  files_then letter text_of groups g piece is = files_more letter text_of 0 groups g
      ∙ ap (λ (file : File). files_from letter text_of 0 groups ++ file ∷ []) (file_is letter text_of groups g piece is)

-- how many entries are in no piece yet
abbrev pub left_of : Pieces → ℕ
left_of p = (length p.tokens.items - p.tries.next) + ((length p.documents.items - p.texts.next)
    + (length p.headings.items - p.titles.next))

-- what two states have of the same index
pub record SameCounts (old new : Pieces) : Type 0 where
  pub tokens : length new.tokens.items ≡ length old.tokens.items
  pub documents : length new.documents.items ≡ length old.documents.items
  pub headings : length new.headings.items ≡ length old.headings.items

tokens_long : (p : Pieces) → length (bytes_of p.tokens.items) ≡ length p.tokens.items
tokens_long p = length-map p.tokens.items string_bytes

documents_long : (p : Pieces) → length (told_documents p.documents.items) ≡ length p.documents.items
documents_long p = length-map p.documents.items _

headings_long : (p : Pieces) → length (told_texts p.headings.items) ≡ length p.headings.items
headings_long p = length-map p.headings.items _

same_counts : (old new : Pieces) (tries more_tries : List (List Bytes)) (texts more_texts : List (List TextMap))
    (titles more_titles : List (List Bytes)) → HasMade old tries texts titles
    → HasMade new more_tries more_texts more_titles → new.parts ≡ old.parts → new.field ≡ old.field
    → SameCounts old new
same_counts old new tries more_tries texts more_texts titles more_titles has then parts field =
    let there : AreTokens old.parts.tries.now (bytes_of new.tokens.items) =
    subst (λ (p : Parts). AreTokens p.tries.now (bytes_of new.tokens.items)) parts then.tokens in
    let one : bytes_of new.tokens.items ≡ bytes_of old.tokens.items =
    one_order (bytes_of new.tokens.items) (bytes_of old.tokens.items) there.order has.tokens.order
    (λ t h. (has.tokens.all t).1 ((there.all t).0 h)) (λ t h. (there.all t).1 ((has.tokens.all t).0 h)) in
    let documents : told_documents new.documents.items ≡ told_documents old.documents.items =
    then.documents ∙ ap (λ (p : Parts). kept_documents p.store.now) parts ∙ sym has.documents in
    let same_titles : titles_in new.parts new.field.now ≡ titles_in old.parts old.field.now =
    λ i. titles_in (parts i) (field i).now in
    let headings : told_texts new.headings.items ≡ told_texts old.headings.items =
    then.headings ∙ same_titles ∙ sym has.headings in
    record {
      tokens = sym (tokens_long new) ∙ ap length one ∙ tokens_long old;
      documents = sym (documents_long new) ∙ ap length documents ∙ documents_long old;
      headings = sym (headings_long new) ∙ ap length headings ∙ headings_long old;
    }

-- fewer entries are left
fewer_tries : (old new : Pieces) (tries : List (List Bytes)) (texts : List (List TextMap)) (titles : List (List Bytes))
    (piece : Piece) → new.parts ≡ old.parts → new.field ≡ old.field → HasMade old tries texts titles
    → MakesTries old new tries texts titles piece → left_of new < left_of old
fewer_tries old new tries texts titles piece parts field has (group, then, file) =
    let same = same_counts old new tries (tries ++ group ∷ []) texts texts titles titles has then parts field in
    let within = cut_within (tokens_text new.parts) new.size (bytes_of new.tokens.items) tries group
    (drop new.tries.next (bytes_of new.tokens.items)) then.tries_far.cut in
    let some = within.0 in
    let room = within.1 in
    let long : length (bytes_of new.tokens.items) ≡ length new.tokens.items = tokens_long new in
    let now : new.tries.next ≡ entries_in tries + length group = then.tries_far.many ∙ sum_more tries group in
    let before : old.tries.next ≡ entries_in tries = has.tries_far.many in
    let texts_stay : new.texts.next ≡ old.texts.next = then.texts_far.many ∙ sym has.texts_far.many in
    let titles_stay : new.titles.next ≡ old.titles.next = then.titles_far.many ∙ sym has.titles_far.many in
    let as_many_tokens = same.tokens in
    let as_many_documents = same.documents in
    let as_many_headings = same.headings in
    omega arith

fewer_texts : (old new : Pieces) (tries : List (List Bytes)) (texts : List (List TextMap)) (titles : List (List Bytes))
    (piece : Piece) → new.parts ≡ old.parts → new.field ≡ old.field → HasMade old tries texts titles
    → MakesTexts old new tries texts titles piece → left_of new < left_of old
fewer_texts old new tries texts titles piece parts field has (group, then, file) =
    let same = same_counts old new tries tries texts (texts ++ group ∷ []) titles titles has then parts field in
    let within = cut_within documents_text (new.size / 8) (kept_documents new.parts.store.now) texts group
    (drop new.texts.next (kept_documents new.parts.store.now)) then.texts_far.cut in
    let some = within.0 in
    let room = within.1 in
    let long : length (kept_documents new.parts.store.now) ≡ length new.documents.items =
    ap length (sym then.documents) ∙ documents_long new in
    let now : new.texts.next ≡ entries_in texts + length group = then.texts_far.many ∙ sum_more texts group in
    let before : old.texts.next ≡ entries_in texts = has.texts_far.many in
    let tries_stay : new.tries.next ≡ old.tries.next = then.tries_far.many ∙ sym has.tries_far.many in
    let titles_stay : new.titles.next ≡ old.titles.next = then.titles_far.many ∙ sym has.titles_far.many in
    let as_many_tokens = same.tokens in
    let as_many_documents = same.documents in
    let as_many_headings = same.headings in
    omega arith

fewer_titles : (old new : Pieces) (tries : List (List Bytes)) (texts : List (List TextMap)) (titles : List (List Bytes))
    (piece : Piece) → new.parts ≡ old.parts → new.field ≡ old.field → HasMade old tries texts titles
    → MakesTitles old new tries texts titles piece → left_of new < left_of old
fewer_titles old new tries texts titles piece parts field has (group, then, file) =
    let same = same_counts old new tries tries texts texts titles (titles ++ group ∷ []) has then parts field in
    let within = cut_within titles_text (new.size / 32) (titles_in new.parts new.field.now) titles group
    (drop new.titles.next (titles_in new.parts new.field.now)) then.titles_far.cut in
    let some = within.0 in
    let room = within.1 in
    let long : length (titles_in new.parts new.field.now) ≡ length new.headings.items =
    ap length (sym then.headings) ∙ headings_long new in
    let now : new.titles.next ≡ entries_in titles + length group = then.titles_far.many ∙ sum_more titles group in
    let before : old.titles.next ≡ entries_in titles = has.titles_far.many in
    let tries_stay : new.tries.next ≡ old.tries.next = then.tries_far.many ∙ sym has.tries_far.many in
    let texts_stay : new.texts.next ≡ old.texts.next = then.texts_far.many ∙ sym has.texts_far.many in
    let as_many_tokens = same.tokens in
    let as_many_documents = same.documents in
    let as_many_headings = same.headings in
    omega arith

-- the pieces so far are files of the index
pub record SoFar (parts : Parts) (title : Bytes) (size : ℕ) (making : Pieces) (made : List Piece) : Type 0 where
  pub tries : List (List Bytes)
  pub texts : List (List TextMap)
  pub titles : List (List Bytes)
  pub has : HasMade making tries texts titles
  pub files : map file_told made ≡ files_of parts tries texts titles
  pub parts_are : making.parts ≡ parts
  pub title_is : making.field.now ≡ title
  pub size_is : making.size ≡ size

-- what a call of `next_piece` says where it answers this
abbrev pub Steps : (old new : Pieces) → Option Piece → Type 0
Steps old new piece = (tries : List (List Bytes)) (texts : List (List TextMap)) (titles : List (List Bytes))
    → HasMade old tries texts titles → IsNext old new tries texts titles piece

pub none_yet : (parts : Parts) (title : Bytes) (size : ℕ) (making : Pieces) (made : List Piece)
    → HasMade making [] [] [] → made ≡ [] → making.parts ≡ parts → making.field.now ≡ title → making.size ≡ size
    → SoFar parts title size making made
none_yet parts title size making made has none parts_are title_is size_is = record {
  tries = [];
  texts = [];
  titles = [];
  has = has;
  files = ap (map file_told) none;
  parts_are = parts_are;
  title_is = title_is;
  size_is = size_is;
}

pub fewer : (parts : Parts) (title : Bytes) (size : ℕ) (old new : Pieces) (made : List Piece) (piece : Piece)
    → SoFar parts title size old made → Steps old new (Some piece) → new.parts ≡ old.parts → new.field ≡ old.field
    → left_of new < left_of old
fewer parts title size old new made piece so_far steps same_parts same_field =
    elim (steps so_far.tries so_far.texts so_far.titles so_far.has) [
      | inl tries ↦ fewer_tries old new so_far.tries so_far.texts so_far.titles piece same_parts same_field so_far.has
          tries
      | inr others ↦ elim others [
        | inl texts ↦ fewer_texts old new so_far.tries so_far.texts so_far.titles piece same_parts same_field so_far.has
            texts
        | inr titles ↦ fewer_titles old new so_far.tries so_far.texts so_far.titles piece same_parts same_field
            so_far.has titles
      ]
    ]

-- ---- one file more

none_before : {A : Type 0} (later : List A) (n m : ℕ) → (later ≡ []) ⊎ (m ≤ n) → n < m → later ≡ []
none_before later n m (inl e) lt = e
none_before later n m (inr le) lt = absurd (omega arith)

none_before_both : {A : Type 0} (later : List A) (n m k l : ℕ) → (later ≡ []) ⊎ ((m ≤ n) × (l ≤ k)) → n < m
    → later ≡ []
none_before_both later n m k l (inl e) lt = e
none_before_both later n m k l (inr both) lt = absurd (let le = both.0 in omega (arith, le))

none_before_either : {A : Type 0} (later : List A) (n m k l : ℕ) → (later ≡ []) ⊎ ((m ≤ n) × (l ≤ k)) → k < l
    → later ≡ []
none_before_either later n m k l (inl e) lt = e
none_before_either later n m k l (inr both) lt = absurd (let le = both.1 in omega (arith, le))

module _ (parts : Parts) where
  -- the files where there are those of the tries alone, and where there are none of the titles
  tries_alone : (tries : List (List Bytes)) (texts : List (List TextMap)) (titles : List (List Bytes)) → texts ≡ []
      → titles ≡ [] → files_of parts tries texts titles ≡ files_from (codes "t") (tokens_text parts) 0 tries
  tries_alone tries texts titles no_texts no_titles =
      let first = files_from (codes "t") (tokens_text parts) 0 tries in
      let none : files_of parts tries texts titles ≡ (first ++ []) ++ [] =
      λ i. (first ++ files_from (codes "d") documents_text 0 (no_texts i))
      ++ files_from (codes "h") titles_text 0 (no_titles i) in
      none ∙ append-nil (first ++ []) ∙ append-nil first

  titles_missing : (tries : List (List Bytes)) (texts : List (List TextMap)) (titles : List (List Bytes))
      → titles ≡ [] → files_of parts tries texts titles
      ≡ files_from (codes "t") (tokens_text parts) 0 tries ++ files_from (codes "d") documents_text 0 texts
  titles_missing tries texts titles no_titles =
      let both = files_from (codes "t") (tokens_text parts) 0 tries ++ files_from (codes "d") documents_text 0 texts in
      let none : files_of parts tries texts titles ≡ both ++ [] =
      λ i. both ++ files_from (codes "h") titles_text 0 (no_titles i) in
      none ∙ append-nil both

  tries_then : (tries : List (List Bytes)) (texts : List (List TextMap)) (titles : List (List Bytes))
      (group : List Bytes) (piece : Piece) → IsFile (codes "t") (length tries) (tokens_text parts group) piece
      → texts ≡ [] → titles ≡ []
      → files_of parts (tries ++ group ∷ []) texts titles ≡ files_of parts tries texts titles ++ file_told piece ∷ []
  tries_then tries texts titles group piece is no_texts no_titles =
      tries_alone (tries ++ group ∷ []) texts titles no_texts no_titles
      ∙ files_then (codes "t") (tokens_text parts) tries group piece is
      ∙ ap (λ (files : List File). files ++ file_told piece ∷ [])
      (sym (tries_alone tries texts titles no_texts no_titles))

  texts_then : (tries : List (List Bytes)) (texts : List (List TextMap)) (titles : List (List Bytes))
      (group : List TextMap) (piece : Piece) → IsFile (codes "d") (length texts) (documents_text group) piece
      → titles ≡ []
      → files_of parts tries (texts ++ group ∷ []) titles ≡ files_of parts tries texts titles ++ file_told piece ∷ []
  texts_then tries texts titles group piece is no_titles =
      let first = files_from (codes "t") (tokens_text parts) 0 tries in
      titles_missing tries (texts ++ group ∷ []) titles no_titles
      ∙ ap (λ (files : List File). first ++ files) (files_then (codes "d") documents_text texts group piece is)
      ∙ sym (append_assoc first (files_from (codes "d") documents_text 0 texts) (file_told piece ∷ []))
      ∙ ap (λ (files : List File). files ++ file_told piece ∷ []) (sym (titles_missing tries texts titles no_titles))

  titles_then : (tries : List (List Bytes)) (texts : List (List TextMap)) (titles : List (List Bytes))
      (group : List Bytes) (piece : Piece) → IsFile (codes "h") (length titles) (titles_text group) piece
      → files_of parts tries texts (titles ++ group ∷ []) ≡ files_of parts tries texts titles ++ file_told piece ∷ []
  titles_then tries texts titles group piece is =
      let both = files_from (codes "t") (tokens_text parts) 0 tries ++ files_from (codes "d") documents_text 0 texts in
      ap (λ (files : List File). both ++ files) (files_then (codes "h") titles_text titles group piece is)
      ∙ sym (append_assoc both (files_from (codes "h") titles_text 0 titles) (file_told piece ∷ []))

then_told : (made : List Piece) (piece : Piece) (before after : List File) → map file_told made ≡ before
    → after ≡ before ++ file_told piece ∷ [] → map file_told (made ++ piece ∷ []) ≡ after
then_told made piece before after so_far more = map-append file_told made (piece ∷ [])
    ∙ ap (λ (files : List File). files ++ file_told piece ∷ []) so_far ∙ sym more

next_of_tries : (parts : Parts) (title : Bytes) (size : ℕ) (old new : Pieces) (made : List Piece) (piece : Piece)
    (so_far : SoFar parts title size old made)
    → MakesTries old new so_far.tries so_far.texts so_far.titles piece → new.parts ≡ old.parts
    → new.field ≡ old.field → new.size ≡ old.size → SoFar parts title size new (made ++ piece ∷ [])
next_of_tries parts title size old new made piece so_far (group, then, file) same_parts same_field same_size =
    let tries = so_far.tries in
    let texts = so_far.texts in
    let titles = so_far.titles in
    let within = cut_within (tokens_text new.parts) new.size (bytes_of new.tokens.items) tries group
    (drop new.tries.next (bytes_of new.tokens.items)) then.tries_far.cut in
    let same = same_counts old new tries (tries ++ group ∷ []) texts texts titles titles so_far.has then same_parts
    same_field in
    let lt : old.tries.next < length (bytes_of old.tokens.items) =
    let some = within.0 in
    let room = within.1 in
    let before : old.tries.next ≡ entries_in tries = so_far.has.tries_far.many in
    let long : length (bytes_of new.tokens.items) ≡ length (bytes_of old.tokens.items) =
    tokens_long new ∙ same.tokens ∙ sym (tokens_long old) in
    omega arith in
    let here : IsFile (codes "t") (length tries) (tokens_text parts group) piece =
    subst (λ (p : Parts). IsFile (codes "t") (length tries) (tokens_text p group) piece) so_far.parts_are file in
    record {
      tries = tries ++ group ∷ [];
      texts = texts;
      titles = titles;
      has = then;
      files = then_told made piece (files_of parts tries texts titles) (files_of parts (tries ++ group ∷ []) texts titles)
          so_far.files (tries_then parts tries texts titles group piece here
          (none_before texts _ _ so_far.has.order lt) (none_before_both titles _ _ _ _ so_far.has.last lt));
      parts_are = same_parts ∙ so_far.parts_are;
      title_is = ap (λ (f : Bor Bytes). f.now) same_field ∙ so_far.title_is;
      size_is = same_size ∙ so_far.size_is;
    }

next_of_texts : (parts : Parts) (title : Bytes) (size : ℕ) (old new : Pieces) (made : List Piece) (piece : Piece)
    (so_far : SoFar parts title size old made)
    → MakesTexts old new so_far.tries so_far.texts so_far.titles piece → new.parts ≡ old.parts
    → new.field ≡ old.field → new.size ≡ old.size → SoFar parts title size new (made ++ piece ∷ [])
next_of_texts parts title size old new made piece so_far (group, then, file) same_parts same_field same_size =
    let tries = so_far.tries in
    let texts = so_far.texts in
    let titles = so_far.titles in
    let within = cut_within documents_text (new.size / 8) (kept_documents new.parts.store.now) texts group
    (drop new.texts.next (kept_documents new.parts.store.now)) then.texts_far.cut in
    let same = same_counts old new tries tries texts (texts ++ group ∷ []) titles titles so_far.has then same_parts
    same_field in
    let lt : old.texts.next < length old.documents.items =
    let some = within.0 in
    let room = within.1 in
    let before : old.texts.next ≡ entries_in texts = so_far.has.texts_far.many in
    let long : length (kept_documents new.parts.store.now) ≡ length old.documents.items =
    ap length (sym then.documents) ∙ documents_long new ∙ same.documents in
    omega arith in
    record {
      tries = tries;
      texts = texts ++ group ∷ [];
      titles = titles;
      has = then;
      files = then_told made piece (files_of parts tries texts titles) (files_of parts tries (texts ++ group ∷ []) titles)
          so_far.files (texts_then parts tries texts titles group piece file
          (none_before_either titles _ _ _ _ so_far.has.last lt));
      parts_are = same_parts ∙ so_far.parts_are;
      title_is = ap (λ (f : Bor Bytes). f.now) same_field ∙ so_far.title_is;
      size_is = same_size ∙ so_far.size_is;
    }

next_of_titles : (parts : Parts) (title : Bytes) (size : ℕ) (old new : Pieces) (made : List Piece) (piece : Piece)
    (so_far : SoFar parts title size old made)
    → MakesTitles old new so_far.tries so_far.texts so_far.titles piece → new.parts ≡ old.parts
    → new.field ≡ old.field → new.size ≡ old.size → SoFar parts title size new (made ++ piece ∷ [])
next_of_titles parts title size old new made piece so_far (group, then, file) same_parts same_field same_size =
    let tries = so_far.tries in
    let texts = so_far.texts in
    let titles = so_far.titles in
    record {
      tries = tries;
      texts = texts;
      titles = titles ++ group ∷ [];
      has = then;
      files = then_told made piece (files_of parts tries texts titles) (files_of parts tries texts (titles ++ group ∷ []))
          so_far.files (titles_then parts tries texts titles group piece file);
      parts_are = same_parts ∙ so_far.parts_are;
      title_is = ap (λ (f : Bor Bytes). f.now) same_field ∙ so_far.title_is;
      size_is = same_size ∙ so_far.size_is;
    }

one_more : (parts : Parts) (title : Bytes) (size : ℕ) (old new : Pieces) (made : List Piece) (piece : Piece)
    → SoFar parts title size old made → Steps old new (Some piece) → new.parts ≡ old.parts → new.field ≡ old.field
    → new.size ≡ old.size → SoFar parts title size new (made ++ piece ∷ [])
one_more parts title size old new made piece so_far steps same_parts same_field same_size =
    elim (steps so_far.tries so_far.texts so_far.titles so_far.has) [
      | inl tries ↦ next_of_tries parts title size old new made piece so_far tries same_parts same_field same_size
      | inr others ↦ elim others [
        | inl texts ↦ next_of_texts parts title size old new made piece so_far texts same_parts same_field same_size
        | inr titles ↦ next_of_titles parts title size old new made piece so_far titles same_parts same_field same_size
      ]
    ]

pub next_file : (parts : Parts) (title : Bytes) (size : ℕ) (old new : Pieces) (made after : List Piece) (piece : Piece)
    → SoFar parts title size old made → Steps old new (Some piece) → new.parts ≡ old.parts → new.field ≡ old.field
    → new.size ≡ old.size → after ≡ made ++ piece ∷ [] → SoFar parts title size new after
next_file parts title size old new made after piece so_far steps same_parts same_field same_size more =
    subst (SoFar parts title size new) (sym more)
    (one_more parts title size old new made piece so_far steps same_parts same_field same_size)

-- the head and all pieces
pub whole_folder : (parts : Parts) (title : Bytes) (size : ℕ) (old new : Pieces) (made : InPieces)
    → SoFar parts title size old made.pieces.items → Steps old new None → new.parts ≡ old.parts
    → new.field ≡ old.field
    → ((tries : List (List Bytes)) (texts : List (List TextMap)) (titles : List (List Bytes))
    → HasMade new tries texts titles → IsHead new.parts new.field.now tries texts titles made.head)
    → HasFolder parts title size made
whole_folder parts title size old new made so_far steps same_parts same_field head =
    let tries = so_far.tries in
    let texts = so_far.texts in
    let titles = so_far.titles in
    let ended = steps tries texts titles so_far.has in
    record {
      tries = tries;
      texts = texts;
      titles = titles;
      are_pieces = subst (λ (p : Parts). ArePieces p title size tries texts titles) so_far.parts_are
          (subst (λ (t : Bytes). ArePieces old.parts t size tries texts titles) so_far.title_is
          (subst (λ (n : ℕ). ArePieces old.parts old.field.now n tries texts titles) so_far.size_is ended.1));
      files = so_far.files;
      is_head = subst (λ (p : Parts). IsHead p title tries texts titles made.head) (same_parts ∙ so_far.parts_are)
          (subst (λ (t : Bytes). IsHead new.parts t tries texts titles made.head)
          (ap (λ (f : Bor Bytes). f.now) same_field ∙ so_far.title_is) (head tries texts titles ended.0));
    }
