-- The type of a text by the code's name and by the rule's: each tells the other.
use mathlib.Core.Path.{◌≡◌, refl}
use Rattle.rule.specs.Rows as Rows
use Rattle.line.specs.Meaning.{kind_of}
use Rattle.line.specs.declared.meaning.Kind.{Kind}
use Rattle.line.specs.declared.meaning.Kind.TheVariants.{F, Fd, Fr}
use Rattle.text.specs.Judged.{kind_for}

pub kind_back : (t : Kind) → kind_for (kind_of t) ≡ t
unfolding kind_for kind_of
kind_back F = refl
kind_back Fd = refl
kind_back Fr = refl

pub same_kind : (t : Rows.Kind) → kind_of (kind_for t) ≡ t
unfolding kind_of kind_for
same_kind Rows.f = refl
same_kind Rows.fd = refl
same_kind Rows.fr = refl
