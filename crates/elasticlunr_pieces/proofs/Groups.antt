-- Groups of entries, and the texts of pieces.
use Rattle.std.proofs.Common.{◌≡◌, ◌<◌, ◌≤◌, ◌+◌, ◌-◌, ℕ, suc, true, List, [], ◌∷◌, ◌++◌, length, take}
use Rattle.std.proofs.Common.{drop}
use Rattle.std.proofs.Common.{map, get_or, refl, sym, ap, ◌∙◌, subst, append_assoc, arith, string_bytes, length-drop}
use Rattle.std.proofs.lemmas.List.{length-map, map-append, drop-map, drop-drop, get_or-drop, take-append-drop}
use Rattle.serde_json.specs.Data.{array, string}
use Rattle.serde_json.specs.Written.{compact_text, members_text, items_text}
use Rattle.json.specs.Print.{quoted}
use Rattle.elasticlunr_error.specs.Text.{Bytes}
use Rattle.elasticlunr_json.specs.Maps.{keyed}
use Rattle.elasticlunr_store.specs.Contents.{TextMap}
use Rattle.elasticlunr_trie.specs.Table.{Table}
use Rattle.elasticlunr_pieces.specs.Cut.{IsGroup, IsCutTo}
use Rattle.elasticlunr_pieces.specs.Entries.{field_values, token_members, tries_text, documents_items, documents_text}
use Rattle.elasticlunr_pieces.specs.Entries.{titles_text}
use Rattle.elasticlunr_print.specs.Printed.{texts}
use Rattle.elasticlunr_pieces.specs.EntryTexts.{token_texts, document_texts, title_texts}
use Rattle.elasticlunr_pieces.specs.Steps.{after_commas, joined, in_brackets, IsCutAt}
use Rattle.elasticlunr_pieces.specs.declared.cut.Form.{Form}
use Rattle.elasticlunr_pieces.specs.declared.cut.Cut.{Cut}

regroup : (q c a e : Bytes) → q ++ 58 ∷ (c ++ (a ++ e)) ≡ ((q ++ 58 ∷ c) ++ a) ++ e
regroup q c a e = sym (append_assoc (q ++ 58 ∷ c) a e ∙ append_assoc q (58 ∷ c) (a ++ e))

members_behind : (names : List Bytes) (tables : List Table) (tokens : List Bytes)
    → members_text true (token_members names tables tokens) ≡ after_commas (token_texts names tables tokens) ++ 125 ∷ []
members_behind names tables [] = refl
members_behind names tables (t ∷ ts) =
    let value = compact_text (array (field_values names tables t)) in
    ap (λ r. 44 ∷ r) (ap (λ r. quoted t ++ 58 ∷ (value ++ r)) (members_behind names tables ts)
    ∙ regroup (quoted t) value (after_commas (token_texts names tables ts)) (125 ∷ []))

pub tries_in_brackets : (names : List Bytes) (tables : List Table) (tokens : List Bytes)
    → tries_text names tables tokens ≡ 123 ∷ (joined (token_texts names tables tokens) ++ 125 ∷ [])
tries_in_brackets names tables [] = refl
tries_in_brackets names tables (t ∷ ts) =
    let value = compact_text (array (field_values names tables t)) in
    ap (λ r. 123 ∷ r) (ap (λ r. quoted t ++ 58 ∷ (value ++ r)) (members_behind names tables ts)
    ∙ regroup (quoted t) value (after_commas (token_texts names tables ts)) (125 ∷ []))

items_behind : (documents : List TextMap) → items_text true (documents_items documents)
    ≡ after_commas (document_texts documents) ++ 93 ∷ []
items_behind [] = refl
items_behind (d ∷ ds) = let value = compact_text (keyed string d) in
    ap (λ r. 44 ∷ r) (ap (λ r. value ++ r) (items_behind ds)
    ∙ sym (append_assoc value (after_commas (document_texts ds)) (93 ∷ [])))

pub documents_in_brackets : (documents : List TextMap)
    → documents_text documents ≡ 91 ∷ (joined (document_texts documents) ++ 93 ∷ [])
documents_in_brackets [] = refl
documents_in_brackets (d ∷ ds) = let value = compact_text (keyed string d) in
    ap (λ r. 91 ∷ r) (ap (λ r. value ++ r) (items_behind ds)
    ∙ sym (append_assoc value (after_commas (document_texts ds)) (93 ∷ [])))

titles_behind : (titles : List Bytes) → items_text true (texts titles) ≡ after_commas (title_texts titles) ++ 93 ∷ []
titles_behind [] = refl
titles_behind (t ∷ ts) = let value = compact_text (string t) in
    ap (λ r. 44 ∷ r) (ap (λ r. value ++ r) (titles_behind ts)
    ∙ sym (append_assoc value (after_commas (title_texts ts)) (93 ∷ [])))

pub titles_in_brackets : (titles : List Bytes)
    → titles_text titles ≡ 91 ∷ (joined (title_texts titles) ++ 93 ∷ [])
titles_in_brackets [] = refl
titles_in_brackets (t ∷ ts) = let value = compact_text (string t) in
    ap (λ r. 91 ∷ r) (ap (λ r. value ++ r) (titles_behind ts)
    ∙ sym (append_assoc value (after_commas (title_texts ts)) (93 ∷ [])))

taken : {A B : Type 0} (f : A → B) (xs : List A) (ys zs : List B) → map f xs ≡ ys ++ zs
    → map f (take (length ys) xs) ≡ ys
taken f xs [] zs e = refl
taken f [] (y ∷ ys) zs e = absurd (cc)
taken f (x ∷ xs) (y ∷ ys) zs e = λ i. get_or (e i) 0 y ∷ taken f xs ys zs (λ j. drop 1 (e j)) i

-- what follows a number
next_there : {A : Type 0} (xs : List A) (n : ℕ) (x : A) (rest : List A) → drop n xs ≡ x ∷ rest → (n < length xs)
    × (get_or xs n x ≡ x)
next_there xs n x rest e =
    let long : length xs - n ≡ suc (length rest) = sym (length-drop n xs) ∙ ap length e in
    let there : get_or xs (n + 0) x ≡ x = sym (get_or-drop n xs 0 x) ∙ ap (λ l. get_or l 0 x) e in
    (omega (arith, long), ap (λ m. get_or xs m x) (omega arith) ∙ there)

mapped_there : {A : Type 0} (f : A → Bytes) (xs : List A) (n : ℕ) (x : A) (rest : List A) → drop n xs ≡ x ∷ rest
    → (n < length (map f xs)) × (get_or (map f xs) n [] ≡ f x)
mapped_there f xs n x rest e =
    let mapped : drop n (map f xs) ≡ f x ∷ map f rest = drop-map f n xs ∙ ap (map f) e in
    let long : length (map f xs) - n ≡ suc (length (map f rest)) = sym (length-drop n (map f xs)) ∙ ap length mapped in
    let there : get_or (map f xs) (n + 0) [] ≡ f x = sym (get_or-drop n (map f xs) 0 [])
    ∙ ap (λ l. get_or l 0 []) mapped
    in (omega (arith, long), ap (λ m. get_or (map f xs) m []) (omega arith) ∙ there)

module _ {A : Type 0} (f : A → Bytes) (text_of : List A → Bytes) (form : Form)
    (brackets : (xs : List A) → text_of xs ≡ in_brackets form (map f xs)) where
  -- the entries whose texts were put together are a group
  pub record Found (entries : List A) (start : ℕ) (cut : Cut) : Type 0 where
    pub group : List A
    pub there : drop start entries ≡ group ++ drop cut.next entries
    pub many : cut.next ≡ start + length group
    pub is_group : IsGroup text_of form.size group (drop cut.next entries)
    pub text : string_bytes cut.text ≡ text_of group

  pub found : (entries : List A) (start : ℕ) (cut : Cut) → IsCutAt (map f entries) form start cut
      → Found entries start cut
  found entries start cut at =
      let left = drop start entries in
      let group = take (length at.group) left in
      let mapped : map f left ≡ at.group ++ drop cut.next (map f entries) = sym (drop-map f start entries) ∙ at.there in
      let same : map f group ≡ at.group = taken f left at.group _ mapped in
      let long : length group ≡ length at.group = sym (length-map group f) ∙ ap length same in
      let rest : drop (length at.group) left ≡ drop cut.next entries =
      drop-drop (length at.group) start entries ∙ ap (λ n. drop n entries) (sym at.many) in
      record {
        group = group;
        there = sym (take-append-drop (length at.group) left) ∙ ap (λ r. group ++ r) rest;
        many = omega (arith, at.many, long);
        is_group = record {
          some = omega (arith, at.some, long);
          fits = λ h. subst (λ n. n ≤ form.size)
              (sym (ap length (brackets group ∙ ap (in_brackets form) same)))
              (at.fits (omega (arith, h, long)));
          full = λ next more e.
              let there = mapped_there f entries cut.next next more e in
              subst (λ n. form.size < n)
              (sym (ap length (brackets (group ++ next ∷ []) ∙ ap (in_brackets form)
              (map-append f group (next ∷ []) ∙ ap (λ r. r ++ f next ∷ []) same
              ∙ ap (λ y. at.group ++ y ∷ []) (sym there.1)))))
              (at.full there.0);
        };
        text = at.text ∙ ap (in_brackets form) (sym same) ∙ sym (brackets group);
      }

-- one group more
pub cut_more : {A : Type 0} (text_of : List A → Bytes) (size : ℕ) (entries : List A) (groups : List (List A))
    (left group more : List A) → IsCutTo text_of size entries groups left → left ≡ group ++ more
    → IsGroup text_of size group more → IsCutTo text_of size entries (groups ++ group ∷ []) more
cut_more text_of size entries [] left group more cut split is = (more, cut ∙ split, is, refl)
cut_more text_of size entries (first ∷ groups) left group more (rest, e, first_is, cut) split is =
    (rest, e, first_is, cut_more text_of size rest groups left group more cut split is)
