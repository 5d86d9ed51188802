-- A line feed at the end of a text changes none of its JSON tokens, and so nothing of what is read of it.
use Rattle.std.proofs.Common.{◌≡◌, ◌≤◌, ◌-◌, ◌+◌, ◌==◌, ◌&&◌, ◌||◌, ℕ, List, [], ◌∷◌, ◌++◌, length, take, drop}
use Rattle.std.proofs.Common.{nat_eq, nat_lt, Bool, true, false, cond, Option, None, Some, option_map, option_and_then}
use Rattle.std.proofs.Common.{refl, sym, ap, ◌∙◌, arith}
use Rattle.std.specs.List.{prefix_len, starts_with}
use Rattle.std.specs.Char.{is_ascii_digit, is_digit, encode_utf8}
use Rattle.std.proofs.lemmas.List.{drop-append-le, take-append-le, length-append}
use Rattle.std.proofs.lemmas.List.Sums.{prefix_len-le-length}
use Rattle.elasticlunr.specs.History.{Commands}
use Rattle.elasticlunr.specs.Printed.{IsPrintOf, IsReadAs, read_within}
use Rattle.elasticlunr.specs.Standing.{Plan}
use Rattle.json.specs.Ascii as ascii
use Rattle.serde_json.specs.Data.{Data}
use Rattle.serde_json.specs.Read.{max_depth, of_json}
use Rattle.json.specs.Json as json
use Rattle.json.specs.Word.{ends_word, after_digits, after_minus, after_sign, after_whole, after_fraction}
use Rattle.json.specs.Word.{after_exponent, after_number, number_before, word}
use Rattle.json.specs.Text.{content, plain, after_backslash, after_u, after_high, prepend, Within, code_unit}
use Rattle.json.specs.Text.{short_escape, is_high_surrogate, is_low_surrogate, surrogate_pair}
use Rattle.json.specs.Token.{number, bad, boolean, null}
use Rattle.json.specs.Lex.{tokens, lex, lex_byte, Mode, Class, class, between, in_word, in_string, in_escape, quote}
use Rattle.json.specs.Lex.{backslash, operator, space, other, Lexeme, string_token, operator_lexeme, token, punctuate}
use Rattle.json.specs.Lex.{fresh}

digits_more : (t : List ℕ) → prefix_len is_ascii_digit (t ++ 10 ∷ []) ≡ prefix_len is_ascii_digit t
digits_more [] = refl
digits_more (x ∷ t) = ap (λ n. cond (is_ascii_digit x) (1 + n) 0) (digits_more t)

abbrev also : Option (List ℕ) → Option (List ℕ)
also o = option_map (λ t. t ++ 10 ∷ []) o

cond_also : (b : Bool) (o p : Option (List ℕ)) → cond b (also o) (also p) ≡ also (cond b o p)
cond_also true o p = refl
cond_also false o p = refl

cond_more : (b : Bool) (s t : List ℕ) → cond b (s ++ 10 ∷ []) (t ++ 10 ∷ []) ≡ cond b s t ++ 10 ∷ []
cond_more true s t = refl
cond_more false s t = refl

and_then_more : (f : List ℕ → Option (List ℕ)) → ((t : List ℕ) → f (t ++ 10 ∷ []) ≡ also (f t))
    → (o : Option (List ℕ)) → option_and_then f (also o) ≡ also (option_and_then f o)
and_then_more f more None = refl
and_then_more f more (Some t) = more t

after_digits_more : (t : List ℕ) → after_digits (t ++ 10 ∷ []) ≡ also (after_digits t)
after_digits_more t =
    let n = prefix_len is_ascii_digit t in
    let within : n ≤ length t = prefix_len-le-length is_ascii_digit t in
    ap (λ k. cond (k == 0) None (Some (drop k (t ++ 10 ∷ [])))) (digits_more t)
    ∙ ap (λ r. cond (n == 0) None (Some r)) (drop-append-le n t (10 ∷ []) within)
    ∙ cond_also (n == 0) None (Some (drop n t))

after_minus_more : (t : List ℕ) → after_minus (t ++ 10 ∷ []) ≡ after_minus t ++ 10 ∷ []
after_minus_more [] = refl
after_minus_more (x ∷ t) = cond_more (x == ascii.minus) t (x ∷ t)

after_sign_more : (t : List ℕ) → after_sign (t ++ 10 ∷ []) ≡ after_sign t ++ 10 ∷ []
after_sign_more [] = refl
after_sign_more (x ∷ t) = cond_more ((x == ascii.minus) || (x == ascii.plus)) t (x ∷ t)

after_whole_more : (t : List ℕ) → after_whole (t ++ 10 ∷ []) ≡ also (after_whole t)
after_whole_more [] = refl
after_whole_more (x ∷ t) = ap (cond (x == ascii.zero) (Some (t ++ 10 ∷ []))) (after_digits_more (x ∷ t))
    ∙ cond_also (x == ascii.zero) (Some t) (after_digits (x ∷ t))

after_fraction_more : (t : List ℕ) → after_fraction (t ++ 10 ∷ []) ≡ also (after_fraction t)
after_fraction_more [] = refl
after_fraction_more (x ∷ t) = ap (λ o. cond (x == ascii.dot) o (Some (x ∷ t ++ 10 ∷ []))) (after_digits_more t)
    ∙ cond_also (x == ascii.dot) (after_digits t) (Some (x ∷ t))

after_exponent_more : (t : List ℕ) → after_exponent (t ++ 10 ∷ []) ≡ also (after_exponent t)
after_exponent_more [] = refl
after_exponent_more (x ∷ t) =
    let b = (x == ascii.lower_e) || (x == ascii.upper_e) in
    ap (λ o. cond b o (Some (x ∷ t ++ 10 ∷ [])))
    (ap after_digits (after_sign_more t) ∙ after_digits_more (after_sign t))
    ∙ cond_also b (after_digits (after_sign t)) (Some (x ∷ t))

after_number_more : (t : List ℕ) → after_number (t ++ 10 ∷ []) ≡ also (after_number t)
unfolding after_number
after_number_more t =
    ap (option_and_then after_exponent) (ap (option_and_then after_fraction)
    (ap after_whole (after_minus_more t) ∙ after_whole_more (after_minus t))
    ∙ and_then_more after_fraction after_fraction_more (after_whole (after_minus t)))
    ∙ and_then_more after_exponent after_exponent_more
    (option_and_then after_fraction (after_whole (after_minus t)))

ends_word_more : (t : List ℕ) → ends_word (t ++ 10 ∷ []) ≡ ends_word t
ends_word_more [] = refl
ends_word_more (x ∷ t) = refl

number_more : (t : List ℕ) (o : Option (List ℕ)) → number_before (t ++ 10 ∷ []) (also o) ≡ number_before t o
number_more t None = refl
number_more t (Some rest) =
    let n = length t - length rest in
    let same : length (t ++ 10 ∷ []) - length (rest ++ 10 ∷ []) ≡ n =
    omega (arith, length-append t (10 ∷ []), length-append rest (10 ∷ [])) in
    ap (λ b. cond b (number (take (length (t ++ 10 ∷ []) - length (rest ++ 10 ∷ [])) (t ++ 10 ∷ []))) bad)
    (ends_word_more rest)
    ∙ ap (λ k. cond (ends_word rest) (number (take k (t ++ 10 ∷ []))) bad) same
    ∙ ap (λ s. cond (ends_word rest) (number s) bad) (take-append-le n t (10 ∷ []) (omega arith))

-- the name has no line feed
abbrev OnOneLine : List ℕ → Type 0
OnOneLine [] = Unit {0}
OnOneLine (x ∷ name) = (nat_eq x 10 ≡ false) × OnOneLine name

and_under : (a p e q f : Bool) → (p && e) ≡ (q && f) → ((a && p) && e) ≡ ((a && q) && f)
and_under true p e q f same = same
and_under false p e q f same = refl

literal_more : (name t : List ℕ) → OnOneLine name
    → (starts_with nat_eq (t ++ 10 ∷ []) name && ends_word (drop (length name) (t ++ 10 ∷ [])))
    ≡ (starts_with nat_eq t name && ends_word (drop (length name) t))
literal_more [] t one = ends_word_more t
literal_more (x ∷ name) [] one = ap (λ b. (b && starts_with nat_eq [] name) && ends_word (drop (length name) [])) one.0
literal_more (x ∷ name) (y ∷ t) one = and_under (nat_eq x y) _ _ _ _ (literal_more name t one.1)

word_more : (x : ℕ) (t : List ℕ) → word (x ∷ t ++ 10 ∷ []) ≡ word (x ∷ t)
unfolding word
word_more x t =
    let front = x ∷ t in
    let numbers = ap (number_before (front ++ 10 ∷ [])) (after_number_more front)
    ∙ number_more front (after_number front) in
    let true_same = literal_more ascii.true_text front (refl, (refl, (refl, (refl, tt)))) in
    let false_same = literal_more ascii.false_text front (refl, (refl, (refl, (refl, (refl, tt))))) in
    let null_same = literal_more ascii.null_text front (refl, (refl, (refl, (refl, tt)))) in
    λ i. cond (x == ascii.lower_t) (cond (true_same i) (boolean true) bad)
    (cond (x == ascii.lower_f) (cond (false_same i) (boolean false) bad)
    (cond (x == ascii.lower_n) (cond (null_same i) null bad) (numbers i)))

none_of : (p q r : Bool) (v : Option ℕ) → cond (p && q && r && false) v None ≡ None
none_of true true true v = refl
none_of true true false v = refl
none_of true false r v = refl
none_of false q r v = refl

cond_none : (b : Bool) → cond {A = Option (List ℕ)} b None None ≡ None
cond_none true = refl
cond_none false = refl

no_unit : (a b c : ℕ) → code_unit a b c 10 ≡ None
unfolding code_unit
no_unit a b c = none_of (is_digit a 16) (is_digit b 16) (is_digit c 16) _

content_more : (w : Within) (xs : List ℕ) → content w (xs ++ 10 ∷ []) ≡ content w xs
unfolding content short_escape
content_more plain [] = refl
content_more plain (x ∷ xs) = λ i. cond (x == ascii.quote) (Some []) (cond (x == ascii.backslash)
    (content_more after_backslash xs i)
    (cond (nat_lt x ascii.space) None (prepend (x ∷ []) (content_more plain xs i))))
content_more after_backslash [] = refl
content_more after_backslash (x ∷ xs) = λ i. cond (x == ascii.lower_u) (content_more after_u xs i)
    (option_and_then (λ c. prepend (c ∷ []) (content_more plain xs i)) (short_escape x))
content_more after_u [] = refl
content_more after_u (a ∷ []) = refl
content_more after_u (a ∷ b ∷ []) = refl
content_more after_u (a ∷ b ∷ c ∷ []) = ap (option_and_then (λ u. cond (is_high_surrogate u) (content (after_high u) [])
    (cond (is_low_surrogate u) None (prepend (encode_utf8 u) (content plain []))))) (no_unit a b c)
content_more after_u (a ∷ b ∷ c ∷ d ∷ xs) = λ i. option_and_then (λ u. cond (is_high_surrogate u)
    (content_more (after_high u) xs i)
    (cond (is_low_surrogate u) None (prepend (encode_utf8 u) (content_more plain xs i)))) (code_unit a b c d)
content_more (after_high h) [] = refl
content_more (after_high h) (s ∷ []) = refl
content_more (after_high h) (s ∷ u ∷ []) = refl
content_more (after_high h) (s ∷ u ∷ a ∷ []) = refl
content_more (after_high h) (s ∷ u ∷ a ∷ b ∷ []) = refl
content_more (after_high h) (s ∷ u ∷ a ∷ b ∷ c ∷ []) = ap (λ o. cond ((s == ascii.backslash) && (u == ascii.lower_u))
    (option_and_then (λ l. cond (is_low_surrogate l)
    (prepend (encode_utf8 (surrogate_pair h l)) (content plain [])) None)
    o) None) (no_unit a b c) ∙ cond_none ((s == ascii.backslash) && (u == ascii.lower_u))
content_more (after_high h) (s ∷ u ∷ a ∷ b ∷ c ∷ d ∷ xs) = λ i. cond ((s == ascii.backslash) && (u == ascii.lower_u))
    (option_and_then (λ l. cond (is_low_surrogate l)
    (prepend (encode_utf8 (surrogate_pair h l)) (content_more plain xs i)) None) (code_unit a b c d)) None

byte_more : (m : Mode) (c : Class) (x : ℕ) (ys xs : List ℕ) (k l : Mode → List Lexeme)
    → content plain ys ≡ content plain xs → word (x ∷ ys) ≡ word (x ∷ xs) → ((n : Mode) → k n ≡ l n)
    → lex_byte m c x ys k ≡ lex_byte m c x xs l
byte_more between quote x ys xs k l string_same word_same then =
    λ i. token (string_token (string_same i)) ∷ then in_string i
byte_more between backslash x ys xs k l string_same word_same then = λ i. token bad ∷ then in_word i
byte_more between operator x ys xs k l string_same word_same then = λ i. operator_lexeme x ∷ then between i
byte_more between space x ys xs k l string_same word_same then = then between
byte_more between other x ys xs k l string_same word_same then = λ i. token (word_same i) ∷ then in_word i
byte_more in_word quote x ys xs k l string_same word_same then = then in_word
byte_more in_word backslash x ys xs k l string_same word_same then = then in_word
byte_more in_word operator x ys xs k l string_same word_same then = λ i. operator_lexeme x ∷ then between i
byte_more in_word space x ys xs k l string_same word_same then = then between
byte_more in_word other x ys xs k l string_same word_same then = then in_word
byte_more in_string quote x ys xs k l string_same word_same then = then between
byte_more in_string backslash x ys xs k l string_same word_same then = then in_escape
byte_more in_string operator x ys xs k l string_same word_same then = then in_string
byte_more in_string space x ys xs k l string_same word_same then = then in_string
byte_more in_string other x ys xs k l string_same word_same then = then in_string
byte_more in_escape c x ys xs k l string_same word_same then = then in_string

lex_more : (m : Mode) (xs : List ℕ) → lex m (xs ++ 10 ∷ []) ≡ lex m xs
unfolding lex
lex_more between [] = refl
lex_more in_word [] = refl
lex_more in_string [] = refl
lex_more in_escape [] = refl
lex_more m (x ∷ xs) = byte_more m (class x) x (xs ++ 10 ∷ []) xs (λ n. lex n (xs ++ 10 ∷ [])) (λ n. lex n xs)
    (content_more plain xs) (word_more x xs) (λ n. lex_more n xs)

tokens_more : (text : List ℕ) → tokens (text ++ 10 ∷ []) ≡ tokens text
tokens_more text = ap (punctuate fresh) (lex_more between text)

read_more : (limit : ℕ) (text : List ℕ) → read_within limit (text ++ 10 ∷ []) ≡ read_within limit text
read_more limit text = ap (λ ts. option_and_then of_json (option_and_then (λ p. json.if_last p.0 p.1)
    (json.value limit ts))) (tokens_more text)

read_as_more : (text : List ℕ) (value : Data) → IsReadAs text value → IsReadAs (text ++ 10 ∷ []) value
read_as_more text value is = record {
  reads = λ deep. read_more max_depth text ∙ is.reads deep;
  no_other = λ w e. is.no_other w (sym (read_more max_depth text) ∙ e);
  reads_within = λ limit deep. read_more limit text ∙ is.reads_within limit deep;
  no_other_within = λ limit w e. is.no_other_within limit w (sym (read_more limit text) ∙ e);
}

-- what was printed of an index is printed with a line feed after it, too
pub print_more : (plan : Plan) (commands : Commands) (text : List ℕ) → IsPrintOf plan commands text
    → IsPrintOf plan commands (text ++ 10 ∷ [])
print_more plan commands text is = record {
  tables = is.tables;
  contents = is.contents;
  value = is.value;
  differ = is.differ;
  holds = is.holds;
  are_tables = is.are_tables;
  printed = is.printed;
  read_as = read_as_more text is.value is.read_as;
}
