-- The text of a piece, as it grows.
use Rattle.std.proofs.Common.{◌≡◌, ◌<◌, ◌≤◌, ◌+◌, ℕ, List, [], ◌∷◌, ◌++◌, length, drop, get_or, refl, sym}
use Rattle.std.proofs.Common.{ap, ◌∙◌, append_assoc, append-nil, add-one, arith, length-append, drop-cons}
use Rattle.elasticlunr_error.specs.Text.{Bytes}
use Rattle.elasticlunr_pieces.specs.declared.cut.Form.{Form}
use Rattle.std.proofs.Common.{string_bytes}
use Rattle.elasticlunr_pieces.specs.declared.cut.Cut.{Cut}
use Rattle.elasticlunr_pieces.specs.Steps.{after_commas, in_brackets, Extends, Stops, IsCutAt}

-- one text more
pub comma_behind : (xs : List Bytes) (x : Bytes) → after_commas (xs ++ x ∷ []) ≡ after_commas xs ++ 44 ∷ x
comma_behind [] x = ap (λ r. 44 ∷ r) (append-nil x)
comma_behind (y ∷ xs) x = ap (λ r. 44 ∷ r) (ap (λ r. y ++ r) (comma_behind xs x)
    ∙ sym (append_assoc y (after_commas xs) (44 ∷ x)))

pub nothing_yet : (texts : List Bytes) (form : Form) (start : ℕ) (old : Bytes) → Extends texts form start start old old
nothing_yet texts form start old = record {
  more = [];
  there = refl;
  many = omega arith;
  text = sym (append-nil old);
  fits = λ h. absurd (omega arith);
}

pub one_more : (texts : List Bytes) (form : Form) (start next : ℕ) (old new middle later entry : Bytes)
    → Extends texts form start next old new → next < length texts → entry ≡ get_or texts next []
    → middle ≡ new ++ 44 ∷ [] → later ≡ middle ++ entry
    → length new + 1 + length entry + length form.closing.now ≤ form.size
    → Extends texts form start (next + 1) old later
one_more texts form start next old new middle later entry e lt is comma text room =
    let split : drop next texts ≡ entry ∷ drop (next + 1) texts =
    rw (add-one, is) (drop-cons texts next [] lt) in record {
      more = e.more ++ entry ∷ [];
      there = e.there ∙ ap (λ r. e.more ++ r) split ∙ sym (append_assoc e.more (entry ∷ []) (drop (next + 1) texts));
      many = rw length-append (omega (arith, e.many));
      text = text ∙ ap (λ r. r ++ entry) (comma ∙ ap (λ r. r ++ 44 ∷ []) e.text)
          ∙ ap (λ r. r ++ entry) (append_assoc old (after_commas e.more) (44 ∷ []))
          ∙ append_assoc old (after_commas e.more ++ 44 ∷ []) entry
          ∙ ap (λ r. old ++ r) (append_assoc (after_commas e.more) (44 ∷ []) entry
          ∙ sym (comma_behind e.more entry));
      fits = λ h.
          let long : length later ≡ length new + 1 + length entry = ap length text ∙ length-append middle entry
          ∙ ap (λ n. n + length entry) (ap length comma ∙ length-append new (44 ∷ [])) in
          omega (arith, long, room);
    }

-- more texts after the first
in_all : (before first more close : Bytes) → ((before ++ first) ++ more) ++ close ≡ before ++ ((first ++ more) ++ close)
in_all before first more close = append_assoc (before ++ first) more close ∙ append_assoc before first (more ++ close)
    ∙ ap (λ r. before ++ r) (sym (append_assoc first more close))

pub whole_group : (texts : List Bytes) (form : Form) (start : ℕ) (cut : Cut) (opened first begun grown : Bytes)
    → start < length texts → first ≡ get_or texts start []
    → opened ≡ form.opening.now → begun ≡ opened ++ first
    → Extends texts form (start + 1) cut.next begun grown → Stops texts form cut.next grown cut.pending
    → string_bytes cut.text ≡ grown ++ form.closing.now → IsCutAt texts form start cut
whole_group texts form start cut opened first begun grown lt is opens begin e stop text =
    let open_text = form.opening.now in
    let close = form.closing.now in
    let split : drop start texts ≡ first ∷ drop (start + 1) texts = rw (add-one, is) (drop-cons texts start [] lt) in
    let all : grown ≡ (open_text ++ first) ++ after_commas e.more =
    e.text ∙ ap (λ r. r ++ after_commas e.more) (begin ∙ ap (λ r. r ++ first) opens) in
    let next = get_or texts cut.next [] in
    let larger : in_brackets form (first ∷ (e.more ++ next ∷ [])) ≡ (grown ++ 44 ∷ next) ++ close =
    sym (in_all open_text first (after_commas (e.more ++ next ∷ [])) close)
    ∙ ap (λ r. ((open_text ++ first) ++ r) ++ close) (comma_behind e.more next)
    ∙ ap (λ r. r ++ close) (sym (append_assoc (open_text ++ first) (after_commas e.more) (44 ∷ next)))
    ∙ ap (λ r. (r ++ 44 ∷ next) ++ close) (sym all) in
    let written : string_bytes cut.text ≡ in_brackets form (first ∷ e.more) =
    text ∙ ap (λ r. r ++ close) all ∙ in_all open_text first (after_commas e.more) close in record {
      group = first ∷ e.more;
      there = split ∙ ap (λ r. first ∷ r) e.there;
      many = omega (arith, e.many);
      text = written;
      some = omega arith;
      fits = λ h.
          let fit : length grown + length close ≤ form.size = e.fits (omega (arith, h)) in
          let long : length (in_brackets form (first ∷ e.more)) ≡ length grown + length close =
          ap length (sym written ∙ text) ∙ length-append grown close in
          omega (arith, fit, long);
      full = λ h.
          let more : form.size < length grown + 1 + length next + length close = stop.full h in
          let long : length (in_brackets form (first ∷ (e.more ++ next ∷ [])))
          ≡ (length grown + (1 + length next)) + length close =
          ap length larger ∙ length-append (grown ++ 44 ∷ next) close
          ∙ ap (λ n. n + length close) (length-append grown (44 ∷ next) ∙ ap (λ n. length grown + n) (omega arith)) in
          omega (arith, more, long);
      held = stop.held;
    }
