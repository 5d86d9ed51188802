-- The pieces so far, and one more.
use Rattle.std.proofs.Common.{◌≡◌, ◌⊎◌, inl, inr, ◌<◌, ◌≤◌, ◌+◌, ◌-◌, ◌/◌, ℕ, suc, List, [], ◌∷◌, ◌++◌, length, drop, map}
use Rattle.std.proofs.Common.{refl, sym}
use Rattle.std.proofs.Common.{ap, ◌∙◌, subst, append_assoc, append-nil, arith, codes, decimal, string_bytes, None, Some}
use Rattle.std.proofs.Common.{zero}
use Rattle.std.specs.Prelude.{IfSome, slice_index_or}
use Rattle.std.specs.List.{flat_map}
use Rattle.std.specs.Prelude.{slice_get, String}
use Rattle.std.specs.declared.alloc.Global.{Global}
use Rattle.std.specs.Borrow.{Bor}
use Rattle.std.specs.BTreeMap.{BTreeMap}
use Rattle.std.specs.Option.{option_to_list}
use Rattle.std.proofs.lemmas.List.{length-map, map-append, drop_all, drop-drop}
use Rattle.serde_json.specs.Data.{string}
use Rattle.serde_json.specs.Written.{compact_text}
use Rattle.elasticlunr_json.specs.Maps.{keyed}
use Rattle.sha2.specs.Hashers.{Holds256}
use Rattle.sha2.specs.declared.Sha256.{Sha256}
use Rattle.elasticlunr_error.specs.Text.{Bytes, bytes_of}
use Rattle.elasticlunr_store.specs.Contents.{TextMap}
use Rattle.elasticlunr_pieces.specs.Cut.{entries_in, IsGroup, IsCutTo}
use Rattle.elasticlunr_pieces.specs.Entries.{AreTokens, documents_text, kept_documents, references}
use Rattle.elasticlunr_pieces.specs.Entries.{titles_text}
use Rattle.elasticlunr_pieces.specs.EntryTexts.{document_texts, title_texts, token_text_of, token_texts}
use Rattle.elasticlunr_print.specs.Parts.{plan_of_parts}
use Rattle.elasticlunr_pieces.specs.Folder.{folder_of}
use Rattle.elasticlunr_pieces.specs.Head.{counts_of, firsts, head_value, starts_from}
use Rattle.elasticlunr_pieces.specs.Numbers.{told_documents, told_texts, texts_at}
use Rattle.elasticlunr_pieces.specs.Pieces.{all_sizes, all_texts, sizes_of, titles_in, tokens_text}
use Rattle.elasticlunr_pieces.specs.Pieces.{ArePieces, HasMade, IsFar, IsFile, IsHead}
use Rattle.elasticlunr_pieces.specs.Pieces.{MakesTexts, MakesTitles, MakesTries}
use Rattle.elasticlunr_pieces.specs.Progress.{IsMade, Stays}
use Rattle.elasticlunr_pieces.specs.Steps.{in_brackets, joined}
use Rattle.elasticlunr_pieces.specs.declared.cut.Form.{Form}
use Rattle.elasticlunr_pieces.specs.declared.making.Head.{Head}
use Rattle.elasticlunr_pieces.specs.declared.making.Piece.{Piece}
use Rattle.elasticlunr_pieces.specs.declared.making.Pieces.{Pieces}
use Rattle.elasticlunr_pieces.specs.declared.progress.Progress.{Progress}
use Rattle.elasticlunr_pieces.proofs.Groups.{cut_more, found, tries_in_brackets, documents_in_brackets}
use Rattle.elasticlunr_pieces.proofs.Groups.{titles_in_brackets}

module _ {A : Type 0} where
  sum_more : (groups : List (List A)) (g : List A) → entries_in (groups ++ g ∷ []) ≡ entries_in groups + length g
  sum_more [] g = omega arith
  sum_more (h ∷ groups) g = let more = sum_more groups g in omega (arith, more)

  starts_more : (n : ℕ) (groups : List (List A)) (g : List A)
      → starts_from n (groups ++ g ∷ []) ≡ starts_from n groups ++ (n + entries_in groups) ∷ []
  starts_more n [] g = ap (λ m. m ∷ []) (omega arith)
  starts_more n (h ∷ groups) g = ap (λ r. n ∷ r) (starts_more (n + length h) groups g
      ∙ ap (λ m. starts_from (n + length h) groups ++ m ∷ []) (omega arith))

  starts_long : (n : ℕ) (groups : List (List A)) → length (starts_from n groups) ≡ length groups
  starts_long n [] = refl
  starts_long n (h ∷ groups) = ap suc (starts_long (n + length h) groups)

  texts_more : (f : List A → Bytes) (groups : List (List A)) (g : List A)
      → flat_map f (groups ++ g ∷ []) ≡ flat_map f groups ++ f g
  texts_more f [] g = append-nil (f g)
  texts_more f (h ∷ groups) g = ap (λ r. f h ++ r) (texts_more f groups g)
      ∙ sym (append_assoc (f h) (flat_map f groups) (f g))

one_many : (start next cut n : ℕ) → cut ≡ next → cut ≡ start + n → next - start ≡ n
one_many start next cut n e many = omega (arith, e, many)

-- one group more of one kind
module _ {A : Type 0} (f : A → Bytes) (text_of : List A → Bytes) (form : Form)
    (brackets : (xs : List A) → text_of xs ≡ in_brackets form (map f xs)) where
  pub record Further (entries : List A) (groups : List (List A)) (letter : Bytes) (new : Progress) (piece : Piece) :
      Type 0 where
    pub group : List A
    pub far : IsFar text_of form.size entries (map f entries) (groups ++ group ∷ []) new
    pub file : IsFile letter (length groups) (text_of group) piece

  pub further : (entries : List A) (groups : List (List A)) (letter : Bytes) (old new : Progress) (piece : Piece)
      → IsFar text_of form.size entries (map f entries) groups old → IsMade (map f entries) form letter old new piece
      → Further entries groups letter new piece
  further entries groups letter old new piece far made =
      let one = found f text_of form brackets entries old.next made.cut made.at in
      record {
        group = one.group;
        far = record {
          cut = cut_more text_of form.size entries groups (drop old.next entries) one.group (drop new.next entries)
              far.cut (one.there ∙ ap (λ n. one.group ++ drop n entries) made.next)
              (subst (λ n. IsGroup text_of form.size one.group (drop n entries)) made.next one.is_group);
          held = subst (λ n. IfSome new.pending (λ text. string_bytes text ≡ slice_index_or (map f entries) n []))
              made.next (subst (λ p. IfSome p (λ text. string_bytes text
              ≡ slice_index_or (map f entries) made.cut.next []))
              made.pending made.at.held);
          starts = made.starts ∙ ap (λ s. s ++ old.next ∷ []) far.starts
              ∙ ap (λ n. starts_from 0 groups ++ n ∷ []) (far.many ∙ omega arith)
              ∙ sym (starts_more 0 groups one.group);
          sizes = made.sizes ∙ ap (λ s. s ++ length (string_bytes piece.text) ∷ []) far.sizes
              ∙ ap (λ n. sizes_of text_of groups ++ n ∷ []) (ap (λ s. length (string_bytes s)) (sym made.text) ∙ ap length one.text)
              ∙ sym (map-append (λ g. length (text_of g)) groups (one.group ∷ []));
          counts = made.counts ∙ ap (λ s. s ++ (new.next - old.next) ∷ []) far.counts
              ∙ ap (λ n. counts_of groups ++ n ∷ []) (one_many old.next new.next made.cut.next (length one.group) made.next one.many)
              ∙ sym (map-append (λ g. length g) groups (one.group ∷ []));
          many = sym made.next ∙ one.many ∙ ap (λ n. n + length one.group) far.many ∙ sym (sum_more groups one.group);
        };
        file = record {
          name = made.name ∙ ap (λ n. letter ++ (decimal n ++ codes ".json"))
              (ap length far.starts ∙ starts_long 0 groups);
          text = ap string_bytes (sym made.text) ∙ one.text;
        };
      }

pub stays_far : {A : Type 0} (text_of : List A → Bytes) (size : ℕ) (entries : List A) (texts : List Bytes)
    (groups : List (List A)) (old new : Progress) → IsFar text_of size entries texts groups old → Stays old new
    → IsFar text_of size entries texts groups new
stays_far text_of size entries texts groups old new far stays = record {
  cut = subst (λ n. IsCutTo text_of size entries groups (drop n entries)) (sym stays.next) far.cut;
  held = subst (λ n. IfSome new.pending (λ text. string_bytes text ≡ slice_index_or texts n [])) (sym stays.next)
      (subst (λ p. IfSome p (λ text. string_bytes text ≡ slice_index_or texts old.next [])) (sym stays.pending)
      far.held);
  starts = stays.starts ∙ far.starts;
  sizes = stays.sizes ∙ far.sizes;
  counts = stays.counts ∙ far.counts;
  many = stays.next ∙ far.many;
}

none_left : {A : Type 0} (texts : List A) (n m : ℕ) → ((texts ≡ []) ⊎ (m ≤ n)) → n < m → texts ≡ []
none_left texts n m (inl e) lt = e
none_left texts n m (inr le) lt = absurd (omega arith)

no_titles_yet : {A : Type 0} (titles : List A) (n m k l : ℕ) → ((titles ≡ []) ⊎ ((m ≤ n) × (l ≤ k))) → n < m
    → titles ≡ []
no_titles_yet titles n m k l (inl e) lt = e
no_titles_yet titles n m k l (inr le) lt = absurd (let h = le.0 in omega (arith, h))

no_titles_either : {A : Type 0} (titles : List A) (n m k l : ℕ) → ((titles ≡ []) ⊎ ((m ≤ n) × (l ≤ k))) → k < l
    → titles ≡ []
no_titles_either titles n m k l (inl e) lt = e
no_titles_either titles n m k l (inr le) lt = absurd (let h = le.1 in omega (arith, h))

module _ (f : List Bytes → Bytes) (g : List TextMap → Bytes) (h : List Bytes → Bytes) where
  abbrev all : List (List Bytes) → List (List TextMap) → List (List Bytes) → Bytes
  all tries texts titles = (flat_map f tries ++ flat_map g texts) ++ flat_map h titles

  pub hashed_tries : (tries : List (List Bytes)) (texts : List (List TextMap)) (titles : List (List Bytes))
      (group : List Bytes) → texts ≡ [] → titles ≡ []
      → all tries texts titles ++ f group ≡ all (tries ++ group ∷ []) texts titles
  hashed_tries tries texts titles group e k =
      let start = flat_map f tries in
      let empty : all tries texts titles ≡ start = (λ i. (start ++ flat_map g (e i)) ++ flat_map h (k i))
      ∙ append-nil (start ++ []) ∙ append-nil start in
      let more = flat_map f (tries ++ group ∷ []) in
      let full : all (tries ++ group ∷ []) texts titles ≡ more = (λ i. (more ++ flat_map g (e i)) ++ flat_map h (k i))
      ∙ append-nil (more ++ []) ∙ append-nil more in
      ap (λ r. r ++ f group) empty ∙ sym (texts_more f tries group) ∙ sym full

  pub hashed_texts : (tries : List (List Bytes)) (texts : List (List TextMap)) (titles : List (List Bytes))
      (group : List TextMap) → titles ≡ []
      → all tries texts titles ++ g group ≡ all tries (texts ++ group ∷ []) titles
  hashed_texts tries texts titles group k =
      let start = flat_map f tries in
      let empty : all tries texts titles ≡ start ++ flat_map g texts = (λ i. (start ++ flat_map g texts)
      ++ flat_map h (k i)) ∙ append-nil (start ++ flat_map g texts) in
      let full : all tries (texts ++ group ∷ []) titles ≡ start ++ flat_map g (texts ++ group ∷ []) =
      (λ i. (start ++ flat_map g (texts ++ group ∷ [])) ++ flat_map h (k i))
      ∙ append-nil (start ++ flat_map g (texts ++ group ∷ [])) in
      ap (λ r. r ++ g group) empty ∙ append_assoc start (flat_map g texts) (g group)
      ∙ ap (λ r. start ++ r) (sym (texts_more g texts group)) ∙ sym full

  pub hashed_titles : (tries : List (List Bytes)) (texts : List (List TextMap)) (titles : List (List Bytes))
      (group : List Bytes) → all tries texts titles ++ h group ≡ all tries texts (titles ++ group ∷ [])
  hashed_titles tries texts titles group =
      append_assoc (flat_map f tries ++ flat_map g texts) (flat_map h titles) (h group)
      ∙ ap (λ r. (flat_map f tries ++ flat_map g texts) ++ r) (sym (texts_more h titles group))

pub tries_made : (old : Pieces) (new : Progress) (hasher : Sha256) (tries : List (List Bytes))
    (texts : List (List TextMap)) (titles : List (List Bytes)) (piece : Piece) (form : Form)
    (items : List (String Global)) → HasMade old tries texts titles
    → old.tries.next < length (bytes_of old.tokens.items) → items ≡ old.tokens.items
    → (IfSome old.tries.pending (λ text. string_bytes text ≡ slice_index_or (token_texts
    (told_texts old.numbers.references.items) old.parts.tries.now (bytes_of items)) old.tries.next [])
    → IsMade (token_texts (told_texts old.numbers.references.items) old.parts.tries.now (bytes_of items)) form
    (codes "t") old.tries new piece)
    → form.opening.now ≡ 123 ∷ [] → form.closing.now ≡ 125 ∷ [] → form.size ≡ old.size
    → ((m : List ℕ) → Holds256 old.hasher m → Holds256 hasher (m ++ string_bytes piece.text))
    → MakesTries old (record old { tries = new; hasher = hasher }) tries texts titles piece
tries_made old new hasher tries texts titles piece form items has lt are made opens closes size hashes =
    let names = references old.parts.store.now in
    let tables = old.parts.tries.now in
    let tokens = bytes_of old.tokens.items in
    let made_here : IsMade (token_texts names tables tokens) form (codes "t") old.tries new piece =
    subst (λ ns. IfSome old.tries.pending (λ text. string_bytes text ≡ slice_index_or (token_texts ns tables tokens)
    old.tries.next []) → IsMade (token_texts ns tables tokens) form (codes "t") old.tries new piece) has.names
    (subst (λ ts. IfSome old.tries.pending (λ text. string_bytes text ≡ slice_index_or (token_texts
    (told_texts old.numbers.references.items) tables (bytes_of ts)) old.tries.next [])
    → IsMade (token_texts (told_texts old.numbers.references.items) tables (bytes_of ts)) form (codes "t") old.tries new
    piece) are made)
    has.tries_far.held in
    let brackets : (xs : List Bytes) → tokens_text old.parts xs
    ≡ in_brackets form (map (token_text_of names tables) xs) =
    λ xs. tries_in_brackets names tables xs ∙ (λ i. sym opens i ++ (joined (token_texts names tables xs) ++ sym closes
    i)) in
    let far : IsFar (tokens_text old.parts) form.size tokens (token_texts names tables tokens) tries old.tries =
    subst (λ n. IsFar (tokens_text old.parts) n tokens (token_texts names tables tokens) tries old.tries) (sym size)
    has.tries_far in
    let more = further (token_text_of names tables) (tokens_text old.parts) form brackets tokens tries (codes "t")
    old.tries new piece far made_here in
    let none = none_left texts _ _ has.order lt in
    let no_titles = no_titles_yet titles _ _ _ _ has.last lt in (
      more.group,
      record {
        tokens = has.tokens;
        names = has.names;
        documents = has.documents;
        headings = has.headings;
        tries_far = subst (λ n. IsFar (tokens_text old.parts) n tokens (token_texts names tables tokens)
            (tries ++ more.group ∷ []) new) size more.far;
        texts_far = has.texts_far;
        titles_far = has.titles_far;
        order = inl none;
        last = inl no_titles;
        hashed = subst (λ m. Holds256 hasher m) (ap (λ r. all_texts old.parts tries texts titles ++ r) more.file.text
            ∙ hashed_tries (tokens_text old.parts) documents_text titles_text tries texts titles more.group none
            no_titles)
            (hashes (all_texts old.parts tries texts titles) has.hashed);
      },
      more.file,
    )

pub texts_made : (old : Pieces) (new : Progress) (hasher : Sha256) (tries : List (List Bytes))
    (texts : List (List TextMap)) (titles : List (List Bytes)) (piece : Piece) (form : Form)
    (items : List (Bor (BTreeMap (String Global) (String Global)))) → HasMade old tries texts titles
    → old.texts.next < length old.documents.items → length (bytes_of old.tokens.items) ≤ old.tries.next → items ≡ old.documents.items
    → (IfSome old.texts.pending (λ text. string_bytes text ≡ slice_index_or (document_texts
    (told_documents items)) old.texts.next [])
    → IsMade (document_texts (told_documents items)) form (codes "d") old.texts new piece)
    → form.opening.now ≡ 91 ∷ [] → form.closing.now ≡ 93 ∷ [] → form.size ≡ old.size / 8
    → ((m : List ℕ) → Holds256 old.hasher m → Holds256 hasher (m ++ string_bytes piece.text))
    → MakesTexts old (record old { texts = new; hasher = hasher }) tries texts titles piece
texts_made old new hasher tries texts titles piece form items has lt le are made opens closes size hashes =
    let documents = kept_documents old.parts.store.now in
    let made_here : IsMade (document_texts documents) form (codes "d") old.texts new piece =
    subst (λ ds. IfSome old.texts.pending (λ text. string_bytes text ≡ slice_index_or (document_texts ds)
    old.texts.next []) → IsMade (document_texts ds) form (codes "d") old.texts new piece)
    (ap told_documents are ∙ has.documents) made has.texts_far.held in
    let text_at = λ (d : TextMap). compact_text (keyed string d) in
    let brackets : (xs : List TextMap) → documents_text xs ≡ in_brackets form (map text_at xs) =
    λ xs. documents_in_brackets xs ∙ (λ i. sym opens i ++ (joined (document_texts xs) ++ sym closes i)) in
    let far : IsFar documents_text form.size documents (document_texts documents) texts old.texts =
    subst (λ n. IsFar documents_text n documents (document_texts documents) texts old.texts) (sym size)
    has.texts_far in
    let more = further text_at documents_text form brackets documents texts (codes "d")
    old.texts new piece far made_here in
    let no_titles = no_titles_either titles _ _ _ _ has.last lt in (
      more.group,
      record {
        tokens = has.tokens;
        names = has.names;
        documents = has.documents;
        headings = has.headings;
        tries_far = has.tries_far;
        titles_far = has.titles_far;
        texts_far = subst (λ n. IsFar documents_text n documents (document_texts documents)
            (texts ++ more.group ∷ []) new) size more.far;
        order = inr le;
        last = inl no_titles;
        hashed = subst (λ m. Holds256 hasher m) (ap (λ r. all_texts old.parts tries texts titles ++ r) more.file.text
            ∙ hashed_texts (tokens_text old.parts) documents_text titles_text tries texts titles more.group no_titles)
            (hashes (all_texts old.parts tries texts titles) has.hashed);
      },
      more.file,
    )

pub titles_made : (old : Pieces) (new : Progress) (hasher : Sha256) (tries : List (List Bytes))
    (texts : List (List TextMap)) (titles : List (List Bytes)) (piece : Piece) (form : Form)
    (items : List (Bor Bytes)) → HasMade old tries texts titles
    → length (bytes_of old.tokens.items) ≤ old.tries.next → length old.documents.items ≤ old.texts.next
    → items ≡ old.headings.items
    → (IfSome old.titles.pending (λ text. string_bytes text ≡ slice_index_or (title_texts (told_texts items))
    old.titles.next [])
    → IsMade (title_texts (told_texts items)) form (codes "h") old.titles new piece)
    → form.opening.now ≡ 91 ∷ [] → form.closing.now ≡ 93 ∷ [] → form.size ≡ old.size / 32
    → ((m : List ℕ) → Holds256 old.hasher m → Holds256 hasher (m ++ string_bytes piece.text))
    → MakesTitles old (record old { titles = new; hasher = hasher }) tries texts titles piece
titles_made old new hasher tries texts titles piece form items has tokens_done texts_done are made opens closes size
    hashes =
    let headings = titles_in old.parts old.field.now in
    let made_here : IsMade (title_texts headings) form (codes "h") old.titles new piece =
    subst (λ ts. IfSome old.titles.pending (λ text. string_bytes text ≡ slice_index_or (title_texts ts)
    old.titles.next []) → IsMade (title_texts ts) form (codes "h") old.titles new piece)
    (ap told_texts are ∙ has.headings) made has.titles_far.held in
    let text_at = λ (t : Bytes). compact_text (string t) in
    let brackets : (xs : List Bytes) → titles_text xs ≡ in_brackets form (map text_at xs) =
    λ xs. titles_in_brackets xs ∙ (λ i. sym opens i ++ (joined (title_texts xs) ++ sym closes i)) in
    let far : IsFar titles_text form.size headings (title_texts headings) titles old.titles =
    subst (λ n. IsFar titles_text n headings (title_texts headings) titles old.titles) (sym size)
    has.titles_far in
    let more = further text_at titles_text form brackets headings titles (codes "h")
    old.titles new piece far made_here in (
      more.group,
      record {
        tokens = has.tokens;
        names = has.names;
        documents = has.documents;
        headings = has.headings;
        tries_far = has.tries_far;
        texts_far = has.texts_far;
        titles_far = subst (λ n. IsFar titles_text n headings (title_texts headings)
            (titles ++ more.group ∷ []) new) size more.far;
        order = inr tokens_done;
        last = inr (tokens_done, texts_done);
        hashed = subst (λ m. Holds256 hasher m) (ap (λ r. all_texts old.parts tries texts titles ++ r) more.file.text
            ∙ hashed_titles (tokens_text old.parts) documents_text titles_text tries texts titles more.group)
            (hashes (all_texts old.parts tries texts titles) has.hashed);
      },
      more.file,
    )

-- the calls that changed nothing that counts
pub tries_stay : (old : Pieces) (new : Progress) (tries : List (List Bytes)) (texts : List (List TextMap))
    (titles : List (List Bytes)) → Stays old.tries new → HasMade old tries texts titles
    → HasMade (record old { tries = new }) tries texts titles
tries_stay old new tries texts titles stays has = record {
  tokens = has.tokens;
  names = has.names;
  documents = has.documents;
  headings = has.headings;
  tries_far = stays_far _ _ _ _ _ _ _ has.tries_far stays;
  texts_far = has.texts_far;
  titles_far = has.titles_far;
  order = subst (λ n. (texts ≡ []) ⊎ (length (bytes_of old.tokens.items) ≤ n)) (sym stays.next) has.order;
  last = subst (λ n. (titles ≡ []) ⊎ ((length (bytes_of old.tokens.items) ≤ n)
      × (length old.documents.items ≤ old.texts.next))) (sym stays.next) has.last;
  hashed = has.hashed;
}

pub texts_stay : (old : Pieces) (new : Progress) (tries : List (List Bytes)) (texts : List (List TextMap))
    (titles : List (List Bytes)) → Stays old.texts new → HasMade old tries texts titles
    → HasMade (record old { texts = new }) tries texts titles
texts_stay old new tries texts titles stays has = record {
  tokens = has.tokens;
  names = has.names;
  documents = has.documents;
  headings = has.headings;
  tries_far = has.tries_far;
  texts_far = stays_far _ _ _ _ _ _ _ has.texts_far stays;
  titles_far = has.titles_far;
  order = has.order;
  last = subst (λ n. (titles ≡ []) ⊎ ((length (bytes_of old.tokens.items) ≤ old.tries.next)
      × (length old.documents.items ≤ n))) (sym stays.next) has.last;
  hashed = has.hashed;
}

pub titles_stay : (old : Pieces) (new : Progress) (tries : List (List Bytes)) (texts : List (List TextMap))
    (titles : List (List Bytes)) → Stays old.titles new → HasMade old tries texts titles
    → HasMade (record old { titles = new }) tries texts titles
titles_stay old new tries texts titles stays has = record {
  tokens = has.tokens;
  names = has.names;
  documents = has.documents;
  headings = has.headings;
  tries_far = has.tries_far;
  texts_far = has.texts_far;
  titles_far = stays_far _ _ _ _ _ _ _ has.titles_far stays;
  order = has.order;
  last = has.last;
  hashed = has.hashed;
}

-- all pieces were made
pub all_made : (pieces : Pieces) (tries : List (List Bytes)) (texts : List (List TextMap))
    (titles : List (List Bytes)) → HasMade pieces tries texts titles
    → length (bytes_of pieces.tokens.items) ≤ pieces.tries.next
    → length pieces.documents.items ≤ pieces.texts.next → length pieces.headings.items ≤ pieces.titles.next
    → ArePieces pieces.parts pieces.field.now pieces.size tries texts titles
all_made pieces tries texts titles has no_tokens no_documents no_titles =
    let documents = kept_documents pieces.parts.store.now in
    let many : length documents ≡ length pieces.documents.items =
    ap length (sym has.documents) ∙ length-map pieces.documents.items _ in
    let headings = titles_in pieces.parts pieces.field.now in
    let long : length headings ≡ length pieces.headings.items =
    ap length (sym has.headings) ∙ length-map pieces.headings.items _ in record {
      tokens = bytes_of pieces.tokens.items;
      are_tokens = has.tokens;
      tries_cut = subst (λ left. IsCutTo (tokens_text pieces.parts) pieces.size (bytes_of pieces.tokens.items) tries
          left)
          (drop_all pieces.tries.next (bytes_of pieces.tokens.items) no_tokens) has.tries_far.cut;
      texts_cut = subst (λ left. IsCutTo documents_text (pieces.size / 8) documents texts left)
          (drop_all pieces.texts.next documents (omega (arith, many, no_documents))) has.texts_far.cut;
      titles_cut = subst (λ left. IsCutTo titles_text (pieces.size / 32) headings titles left)
          (drop_all pieces.titles.next headings (omega (arith, long, no_titles))) has.titles_far.cut;
    }

-- no piece yet
pub begun : (p : Pieces) → AreTokens p.parts.tries.now (bytes_of p.tokens.items)
    → told_texts p.numbers.references.items ≡ references p.parts.store.now
    → told_documents p.documents.items ≡ kept_documents p.parts.store.now
    → told_texts p.headings.items ≡ titles_in p.parts p.field.now
    → p.tries.next ≡ 0 → p.tries.pending ≡ None → p.tries.starts.items ≡ [] → p.tries.sizes.items ≡ []
    → p.tries.counts.items ≡ []
    → p.texts.next ≡ 0 → p.texts.pending ≡ None → p.texts.starts.items ≡ [] → p.texts.sizes.items ≡ []
    → p.texts.counts.items ≡ []
    → p.titles.next ≡ 0 → p.titles.pending ≡ None → p.titles.starts.items ≡ [] → p.titles.sizes.items ≡ []
    → p.titles.counts.items ≡ []
    → Holds256 p.hasher [] → HasMade p [] [] []
begun p tokens names documents headings next pending starts sizes counts texts_next texts_pending texts_starts
    texts_sizes texts_counts titles_next titles_pending titles_starts titles_sizes titles_counts hashed = record {
      tokens = tokens;
      names = names;
      documents = documents;
      headings = headings;
      tries_far = record {
        cut = ap (λ n. drop n (bytes_of p.tokens.items)) (sym next);
        held = subst (λ t. IfSome t (λ text. string_bytes text ≡ slice_index_or (token_texts (references p.parts.store.now)
            p.parts.tries.now (bytes_of p.tokens.items)) p.tries.next [])) (sym pending) tt;
        starts = starts;
        sizes = sizes;
        counts = counts;
        many = next;
      };
      texts_far = record {
        cut = ap (λ n. drop n (kept_documents p.parts.store.now)) (sym texts_next);
        held = subst (λ t. IfSome t (λ text. string_bytes text ≡ slice_index_or (document_texts
            (kept_documents p.parts.store.now)) p.texts.next [])) (sym texts_pending) tt;
        starts = texts_starts;
        sizes = texts_sizes;
        counts = texts_counts;
        many = texts_next;
      };
      titles_far = record {
        cut = ap (λ n. drop n (titles_in p.parts p.field.now)) (sym titles_next);
        held = subst (λ t. IfSome t (λ text. string_bytes text ≡ slice_index_or (title_texts
            (titles_in p.parts p.field.now)) p.titles.next [])) (sym titles_pending) tt;
        starts = titles_starts;
        sizes = titles_sizes;
        counts = titles_counts;
        many = titles_next;
      };
      order = inl refl;
      last = inl refl;
      hashed = hashed;
    }

-- what is left after a group
rest_of : {A : Type 0} (g more : List A) → drop (length g) (g ++ more) ≡ more
rest_of [] more = refl
rest_of (x ∷ g) more = rest_of g more

got : {A : Type 0} (xs : List A) (n : ℕ) (x : A) (rest : List A) → drop n xs ≡ x ∷ rest → slice_get xs n ≡ Some x
got [] zero x rest e = absurd (cc)
got [] (suc n) x rest e = absurd (cc)
got (y ∷ xs) zero x rest e = ap (λ l. slice_get l 0) e
got (y ∷ xs) (suc n) x rest e = got xs n x rest e

-- the tokens at the beginnings of the groups are their first ones
pub firsts_there : (text_of : List Bytes → Bytes) (size : ℕ) (all entries : List Bytes) (groups : List (List Bytes))
    (left : List Bytes) (n : ℕ) → drop n all ≡ entries → IsCutTo text_of size entries groups left
    → texts_at all (starts_from n groups) ≡ firsts groups
firsts_there text_of size all entries [] left n at cut = refl
firsts_there text_of size all entries ([] ∷ groups) left n at (more, split, is, cut) = absurd
    (let none = is.some in omega (arith, none))
firsts_there text_of size all entries ((t ∷ ts) ∷ groups) left n at (more, split, is, cut) =
    let here : slice_get all n ≡ Some t = got all n t (ts ++ more) (at ∙ split) in
    let later : drop (n + length (t ∷ ts)) all ≡ more =
    sym (drop-drop (length (t ∷ ts)) n all) ∙ ap (drop (length (t ∷ ts))) (at ∙ split) ∙ rest_of (t ∷ ts) more in
    (λ i. option_to_list (here i) ++ firsts_there text_of size all more groups left (n + length (t ∷ ts)) later cut i)

pub head_of : (p : Pieces) (tries : List (List Bytes)) (texts : List (List TextMap)) (titles : List (List Bytes))
    (head : Head) (folder : Bytes) (tokens : List Bytes) (sizes : List ℕ) → HasMade p tries texts titles
    → ((m : List ℕ) → Holds256 p.hasher m → folder ≡ folder_of m) → string_bytes head.folder ≡ folder
    → tokens ≡ texts_at (bytes_of p.tokens.items) p.tries.starts.items
    → sizes ≡ (p.tries.sizes.items ++ p.texts.sizes.items) ++ p.titles.sizes.items
    → string_bytes head.text ≡ compact_text (head_value (plan_of_parts p.parts) p.parts.store.now
    (told_texts p.numbers.references.items) (record {
      folder = folder;
      tries = tokens;
      texts = p.texts.counts.items;
      titles = p.titles.counts.items;
      sizes = sizes;
      title = p.field.now;
    }))
    → IsHead p.parts p.field.now tries texts titles head
head_of p tries texts titles head folder tokens sizes has named folder_is tokens_are sizes_are text =
    let name = named (all_texts p.parts tries texts titles) has.hashed in
    let first_ones : tokens ≡ firsts tries = tokens_are
    ∙ ap (texts_at (bytes_of p.tokens.items)) has.tries_far.starts
    ∙ firsts_there (tokens_text p.parts) p.size (bytes_of p.tokens.items) (bytes_of p.tokens.items) tries
    (drop p.tries.next (bytes_of p.tokens.items)) 0 refl has.tries_far.cut in
    let all : sizes ≡ all_sizes p.parts tries texts titles = sizes_are
    ∙ (λ i. (has.tries_far.sizes i ++ has.texts_far.sizes i) ++ has.titles_far.sizes i) in
    record {
      folder = folder_is ∙ name;
      text = text ∙ (λ i. compact_text (head_value (plan_of_parts p.parts) p.parts.store.now (has.names i)
          (record {
            folder = name i;
            tries = first_ones i;
            texts = has.texts_far.counts i;
            titles = has.titles_far.counts i;
            sizes = all i;
            title = p.field.now;
          })));
    }
