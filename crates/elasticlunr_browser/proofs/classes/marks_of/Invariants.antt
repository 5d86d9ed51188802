use Rattle.elasticlunr_browser.proofs.MarkLemmas.{AreMarks}
use Rattle.elasticlunr_browser.proofs.classes.marks_of.Given as goal

-- the marks so far are those of the characters so far
abbrev pub invariant-loop-code : goal.invariant-loop-code
invariant-loop-code g l = AreMarks (g.C.CharClass.has l.class) l.code l.inside l.marks.items
