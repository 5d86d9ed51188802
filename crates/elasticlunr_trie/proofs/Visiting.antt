-- What is left to visit, step by step.
use Rattle.std.proofs.Common.{◌≡◌, ◌⊎◌, inl, inr, ℕ, suc, ◌+◌, ◌≤◌, List, [], ◌∷◌, ◌++◌, length, take, IfOk, IfSome}
use Rattle.std.proofs.Common.{IfNone, Option, Some, None, Result, Ok, Err, String, Global, string_bytes, encode_utf8}
use Rattle.std.proofs.Common.{refl, sym, ap, subst, ◌∙◌, arith, append_assoc, append-nil, add-zero, length-append}
use Rattle.std.proofs.Common.{take_all}
use Rattle.std.proofs.Math.Seq.{take-append_seam, drop-append_seam}
use Rattle.std.proofs.lemmas.List.{take-append-le, map-append, nil_from_length}
use Rattle.std.proofs.lemmas.Str.{IsUtf8-string_bytes, IsUtf8-drop, IsCharBoundary-from_take, chars-append, chars-nil}
use Rattle.std.proofs.lemmas.Str.{chars_past_char}
use Rattle.std.specs.Borrow.{Bor}
use Rattle.std.specs.List.{slice_get}
use Rattle.std.specs.Str.{chars, IsUtf8}
use Rattle.std.specs.String.{string_len}
use Rattle.elasticlunr_error.specs.Text.{Text, text_of, texts_of}
use Rattle.elasticlunr_trie_nodes.specs.Nodes.{children_of}
use Rattle.elasticlunr_trie_nodes.specs.declared.nodes.Node.{Node}
use Rattle.elasticlunr_trie.specs.Children.{Children}
use Rattle.elasticlunr_trie.specs.Visits.{Advances, HasVisits, below, left, node_visits, posted}

-- one character more
pub chars_behind : (a b : String Global) (c : ℕ) → string_bytes b ≡ string_bytes a ++ encode_utf8 c → text_of b
    ≡ text_of a ++ c ∷ []
chars_behind a b c e =
    let xs = string_bytes a in
    let whole : IsUtf8 (xs ++ encode_utf8 c) = subst IsUtf8 e (IsUtf8-string_bytes b) in
    let front : IsUtf8 (take (length xs) (xs ++ encode_utf8 c)) =
    subst IsUtf8 (sym (take-append_seam xs (encode_utf8 c))) (IsUtf8-string_bytes a) in
    let short : length xs ≤ length (xs ++ encode_utf8 c) = omega (arith, length-append xs (encode_utf8 c)) in
    let last : IsUtf8 (encode_utf8 c) = subst IsUtf8 (drop-append_seam xs (encode_utf8 c))
    (IsUtf8-drop (xs ++ encode_utf8 c) (length xs) whole
    (IsCharBoundary-from_take (xs ++ encode_utf8 c) (length xs) whole short front)) in
    ap chars e ∙ chars-append xs (encode_utf8 c) (IsUtf8-string_bytes a)
    ∙ ap (λ cs. chars xs ++ cs) (chars_past_char (encode_utf8 c) [] c last (sym (append-nil (encode_utf8 c)))
    ∙ ap (λ cs. c ∷ cs) chars-nil)

-- one character less, or none
pub chars_before : (a b : String Global) (o : Option ℕ)
    → IfSome o (λ c. string_bytes a ≡ string_bytes b ++ encode_utf8 c) → IfNone o (string_len a ≡ 0)
    → ((c : ℕ) × (text_of a ≡ text_of b ++ c ∷ [])) ⊎ (text_of a ≡ [])
chars_before a b (Some c) some none = inl (c, chars_behind b a c some)
chars_before a b None some none = inr (ap chars (nil_from_length (string_bytes a) (sym a.bytes.ok.0 ∙ none))
    ∙ chars-nil)

-- one text more
pub texts_behind : (old new : List (String Global)) (s : String Global) (t : Text) → new ≡ old ++ s ∷ [] → text_of s ≡ t
    → texts_of new ≡ texts_of old ++ t ∷ []
texts_behind old new s t e is = ap texts_of e ∙ map-append text_of old (s ∷ []) ∙ ap (λ u. texts_of old ++ u ∷ []) is

module _ (nodes : List Node) where
  -- the last children come first
  left_push : (n : ℕ) (t : Text) (ls : List (Bor Children)) (l : Bor Children) → left nodes n t (ls ++ l ∷ [])
      ≡ below (node_visits nodes) (take (n + length ls) t) l.now ++ left nodes n t ls
  left_push n t [] l = ap (λ m. below (node_visits nodes) (take m t) l.now) (sym (add-zero n))
      ∙ sym (append-nil (below (node_visits nodes) (take (n + 0) t) l.now))
  left_push n t (x ∷ ls) l =
      let deeper : suc n + length ls ≡ n + suc (length ls) = omega arith in
      ap (λ vs. vs ++ below (node_visits nodes) (take n t) x.now) (left_push (suc n) t ls l)
      ∙ append_assoc (below (node_visits nodes) (take (suc n + length ls) t) l.now) (left nodes (suc n) t ls)
      (below (node_visits nodes) (take n t) x.now)
      ∙ ap (λ m. below (node_visits nodes) (take m t) l.now ++ left nodes n t (x ∷ ls)) deeper

  -- what stands above the end of a text does not change with it
  left_keeps : (n : ℕ) (t u : Text) (ls : List (Bor Children)) → n + length ls ≤ suc (length t)
      → left nodes n (t ++ u) ls ≡ left nodes n t ls
  left_keeps n t u [] h = refl
  left_keeps n t u (x ∷ ls) h = λ i. left_keeps (suc n) t u ls (omega (arith, h)) i ++ below (node_visits nodes)
      (take-append-le n t u (omega (arith, h)) i) x.now

  -- the children at the end of the text come first
  pub left_first : (n : ℕ) (t : Text) (ls ls2 : List (Bor Children)) (l : Bor Children) → ls2 ≡ ls ++ l ∷ [] → length t
      ≡ n + length ls → left nodes n t ls2 ≡ below (node_visits nodes) t l.now ++ left nodes n t ls
  left_first n t ls ls2 l e level =
      ap (left nodes n t) e ∙ left_push n t ls l ∙ ap (λ u. below (node_visits nodes) u l.now ++ left nodes n t ls)
      (take_all (n + length ls) t (omega (arith, level)))

  module _ (has : HasVisits nodes) where
    child_first : (n : ℕ) (t : Text) (ls : List (Bor Children)) (c k : ℕ) (rest kids : Bor Children) → length t
        ≡ n + length ls → kids.now ≡ children_of (slice_get nodes k)
        → below (node_visits nodes) t ((c, k) ∷ rest.now) ++ left nodes n t ls ≡ (t ++ c ∷ [], k)
        ∷ left nodes n (t ++ c ∷ []) ((ls ++ rest ∷ []) ++ kids ∷ [])
    child_first n t ls c k rest kids level are =
        let t2 = t ++ c ∷ [] in
        let f = node_visits nodes in
        let one : length (ls ++ rest ∷ []) ≡ length ls + 1 = length-append ls (rest ∷ []) in
        let long : length t2 ≡ length t + 1 = length-append t (c ∷ []) in
        let before : take (n + length ls) t2 ≡ t = ap (λ m. take m t2) (sym level) ∙ take-append_seam t (c ∷ []) in
        let kept : left nodes n t2 ls ≡ left nodes n t ls = left_keeps n t (c ∷ []) ls (omega (arith, level)) in
        let later : left nodes n t2 (ls ++ rest ∷ []) ≡ below f t rest.now ++ left nodes n t ls = left_push n t2 ls rest
        ∙ (λ i. below f (before i) rest.now ++ kept i) in
        let all : left nodes n t2 ((ls ++ rest ∷ []) ++ kids ∷ []) ≡ below f t2 (children_of (slice_get nodes k)) ++
        (below f t rest.now ++ left nodes n t ls) =
        left_first n t2 (ls ++ rest ∷ []) ((ls ++ rest ∷ []) ++ kids ∷ []) kids refl (omega (arith, level, one, long))
        ∙ (λ i. below f t2 (are i) ++ later i) in
        ap (λ vs. (vs ++ below f t rest.now) ++ left nodes n t ls) (has t2 k)
        ∙ append_assoc ((t2, k) ∷ below f t2 (children_of (slice_get nodes k))) (below f t rest.now) (left nodes n t ls)
        ∙ ap (λ vs. (t2, k) ∷ vs) (sym all)

    -- a child is visited, and its children and those after it are left
    pub advances_child : (n : ℕ) (t : Text) (es : Children) (ls : List (Bor Children)) (found : List Text) (t2 : Text)
        (ls2 : List (Bor Children)) (found2 : List Text) (c k : ℕ) (rest kids : Bor Children)
        → length t ≡ n + length ls → es ≡ (c, k) ∷ rest.now → t2 ≡ t ++ c ∷ [] → ls2 ≡ (ls ++ rest ∷ []) ++ kids ∷ []
        → kids.now ≡ children_of (slice_get nodes k) → found2 ≡ found ++ posted nodes ((t2, k) ∷ [])
        → Advances nodes n t es ls found t2 ls2 found2
    advances_child n t es ls found t2 ls2 found2 c k rest kids level first path stack are more =
        let two : length ls2 ≡ length ls + 2 =
        omega (arith, ap length stack, length-append (ls ++ rest ∷ []) (kids ∷ []), length-append ls (rest ∷ []))
        in
        let long : length t2 ≡ length t + 1 = ap length path ∙ length-append t (c ∷ []) in
        record {
          visited = (t2, k) ∷ [];
          split = ap (λ xs. below (node_visits nodes) t xs ++ left nodes n t ls) first
              ∙ child_first n t ls c k rest kids level are ∙ sym (λ i. (path i, k) ∷ left nodes n (path i) (stack i));
          more = more;
          smaller = two;
          level = λ some. omega (arith, level, two, long);
        }

    -- no child is left, and the text is cut by a character
    pub advances_back : (n : ℕ) (t : Text) (es : Children) (ls : List (Bor Children)) (found : List Text) (t2 : Text)
        → length t ≡ n + length ls → length es ≡ 0 → ((c : ℕ) × (t ≡ t2 ++ c ∷ [])) ⊎ (t ≡ [])
        → Advances nodes n t es ls found t2 ls found
    advances_back n t (e ∷ es) ls found t2 level none cut = absurd (omega (arith, none))
    advances_back n t [] [] found t2 level none cut = record {
      visited = [];
      split = refl;
      more = sym (append-nil found);
      smaller = refl;
      level = λ some. absurd (some refl);
    }
    advances_back n t [] (x ∷ ls) found t2 level none (inr empty) = absurd (omega (arith, level, ap length empty))
    advances_back n t [] (x ∷ ls) found t2 level none (inl cut) =
        let long : length t ≡ length t2 + 1 = ap length cut.1 ∙ length-append t2 (cut.0 ∷ []) in
        record {
          visited = [];
          split = ap (λ u. left nodes n u (x ∷ ls)) cut.1
              ∙ left_keeps n t2 (cut.0 ∷ []) (x ∷ ls) (omega (arith, level, long));
          more = sym (append-nil found);
          smaller = sym (add-zero (suc (length ls)));
          level = λ some. omega (arith, level, long);
        }

-- a fact of a result
pub if_ok : {A E : Type 0} (r : Result A E) {P Q : A → Type 0} → IfOk r P → ((x : A) → P x → Q x) → IfOk r Q
if_ok (Ok x) h f = f x h
if_ok (Err e) h f = h
