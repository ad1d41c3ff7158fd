-- What each export promises: an answer that its entry allows is told, on three slices or on a row of records.
use Rattle.std.specs.Prelude.{Bool, List, ℕ, Result}
use Rattle.rule.specs.Func.{Fn}
use Rattle.graph.specs.Entry.{Operated}
use Rattle.rule.specs.declared.refusal.Refusal.{Refusal}
use Rattle.rule.specs.declared.refusal.Refused.{Refused}
use Rattle.list.specs.Entry.{Generates}
use Rattle.text.specs.Writing.{Wrote}
use Rattle.text.specs.Candidate.{Read}
use Rattle.text.specs.Function.{ReadsFunction}
use Rattle.text.specs.declared.function.Function.{Function}
use Rattle.nodes.specs.Operation.{Operates}
use Rattle.nodes.specs.Generator.{RowGenerates}
use Rattle.nodes.specs.Reading.{RowReads}
use Rattle.nodes.specs.declared.row.Node.{Node}
use Rattle.nodes.specs.declared.operation.Operation.{Operation}
use Rattle.telling.specs.Told.{Told, ToldList, ToldWritten, ToldCandidate, ToldFunction}

-- An operation that builds, with the result f: an answer that it allows is told.
pub record Operating (n : ℕ) (c : ℕ) (v : List ℕ) (l : List ℕ) (h : List ℕ) (ranged : Bool) (f : Fn n) (v' : List ℕ) (l' : List ℕ) (h' : List ℕ) (status : ℕ) (out : List ℕ) : Type 0 where
  pub answer : Result ℕ Refusal
  pub count : ℕ
  pub operated : Operated n c v l h ranged f count v' l' h' answer
  pub told : Told answer count status out

-- The generator, for the roots a and b: the answer that it allows is told.
pub record Generating (n : ℕ) (c : ℕ) (v : List ℕ) (l : List ℕ) (h : List ℕ) (a : ℕ) (b : ℕ) (room : List ℕ) (v' : List ℕ) (l' : List ℕ) (h' : List ℕ) (room' : List ℕ) (status : ℕ) (out : List ℕ) : Type 0 where
  pub answer : Result ℕ Refused
  pub generates : Generates n c v l h a b room c v' l' h' room' answer
  pub told : ToldList answer status out

-- The writing of a list xs for n columns: the answer that it allows is told.
pub record WritingList (n : ℕ) (xs : List ℕ) (room : List ℕ) (room' : List ℕ) (status : ℕ) (out : List ℕ) : Type 0 where
  pub answer : Result ℕ Refused
  pub wrote : Wrote n xs room room' answer
  pub told : ToldWritten answer status out

-- The reading of a candidate for n columns: the answer that it allows is told.
pub record ReadingCandidate (n : ℕ) (text : List ℕ) (room : List ℕ) (room' : List ℕ) (status : ℕ) (out : List ℕ) : Type 0 where
  pub answer : Result ℕ Refused
  pub read : Read n text room room' answer
  pub told : ToldCandidate answer status out

-- The reading of a function text: the answer that it allows is told.
pub record ReadingFunction (text : List ℕ) (v : List ℕ) (l : List ℕ) (h : List ℕ) (v' : List ℕ) (l' : List ℕ) (h' : List ℕ) (status : ℕ) (out : List ℕ) : Type 0 where
  pub answer : Result Function Refused
  pub reads : ReadsFunction text v l h v' l' h' answer
  pub told : ToldFunction answer status out

-- An operation that builds, on a row of records.
pub record RowOperating (op : Operation) (n : ℕ) (c : ℕ) (xs : List Node) (ys : List Node) (status : ℕ) (out : List ℕ) : Type 0 where
  pub answer : Result ℕ Refusal
  pub count : ℕ
  pub operates : Operates op n c xs count ys answer
  pub told : Told answer count status out

-- The generator, on a row of records.
pub record RowGenerating (n : ℕ) (c : ℕ) (xs : List Node) (a : ℕ) (b : ℕ) (room : List ℕ) (ys : List Node) (room' : List ℕ) (status : ℕ) (out : List ℕ) : Type 0 where
  pub answer : Result ℕ Refused
  pub generates : RowGenerates n c xs a b room c ys room' answer
  pub told : ToldList answer status out

-- The reading of a function text into a row of records.
pub record RowReading (text : List ℕ) (xs : List Node) (ys : List Node) (status : ℕ) (out : List ℕ) : Type 0 where
  pub answer : Result Function Refused
  pub reads : RowReads text xs ys answer
  pub told : ToldFunction answer status out
