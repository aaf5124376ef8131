-- The operations of threads: the events of each, one after another, and what a call that runs one leaves its caller
-- with.
use Rattle.std.specs.Prelude.{◌≡◌, ◌⊎◌, ℕ, ◌<◌, ◌≤◌, true, false, List, [], ◌∷◌, ◌++◌, Option, Some, None}
use mathlib.Core.List.{IsPrefix}
use Rattle.joint_machine.specs.declared.names.Thread.{Thread}
use Rattle.joint_machine.specs.declared.names.Thread.TheVariants.{M, P, C}
use Rattle.joint_machine.specs.declared.lines.Act.{Act}
use Rattle.joint_machine.specs.declared.lines.Act.TheVariants as act
use Rattle.joint_machine.specs.declared.events.Entry.{Entry}
use Rattle.joint_machine.specs.declared.events.Op.{Op}
use Rattle.joint_machine.specs.declared.events.Op.TheVariants as op
use Rattle.joint_machine.specs.declared.events.Reply.{Reply}
use Rattle.joint_machine.specs.declared.events.Reply.TheVariants as says
use Rattle.joint_machine.specs.Control.{Doing, IsDone}
use Rattle.joint_machine.specs.Draws.{numbered}
use Rattle.joint_machine.specs.HistoryLines.{caller_line}
use Rattle.joint_machine.specs.Lines.{IsLine, IsManagedThread, IsVar, is_peer_event}
use Rattle.joint_machine.specs.Run.{thread_number}
use Rattle.order_table.specs.declared.views.View.{View}
use Rattle.order_table.specs.Rule.{IsBelow}
use Rattle.order_table.specs.Views.{known}
use Rattle.weak_wait.specs.declared.reads.Got.{Got}
use Rattle.weak_wait.specs.Reads.{IsExact, IsRead, Reads, cell_of, reply_of}
use Rattle.managed_heap.specs.Steps.{IsManagedStep, take_op, weak_op}
use Rattle.peer_heap.specs.Steps.{IsRelease}
use Rattle.joint_history.specs.declared.callers.Receipt.{Receipt}
use Rattle.joint_history.specs.declared.operations.ManagedCall.{ManagedCall}
use Rattle.joint_history.specs.declared.operations.ManagedCall.TheVariants as call
use Rattle.joint_history.specs.Callers.{Pass}
use Rattle.joint_history.specs.Knowing.{line_known}
use Rattle.joint_history.specs.Locked.{Stands, made_by}
use Rattle.joint_history.specs.PeerCalls.{IsPeerCall}

-- a thread that isn't the driver
abbrev pub IsOwnThread : Thread → Type 0
IsOwnThread (M n) = (1 ≤ n) × (n ≤ 8)
IsOwnThread (P n) = (1 ≤ n) × (n ≤ 8)
IsOwnThread C = ⊥

-- the thread may begin an operation on that line: it has nothing left to release, and its last line isn't above
pub record MayBegin (t : Thread) (v : View) (index : ℕ) : Type 0 where
  pub doing : Doing
  pub stands : Stands t v index doing
  pub done : IsDone doing

-- a peer thread's line that is one event: all but a collect, whose begin and sweep are made in one hold of the lock
abbrev pub IsEventLine : Act → Type 0
IsEventLine act.Collect = ⊥
IsEventLine a = Unit {0}

-- an operation of a managed thread, or one of a peer thread
abbrev pub IsOperationOf : Thread → Act → Type 0
IsOperationOf (M n) a = IsLine (M n) a
IsOperationOf (P n) a = IsLine (P n) a
IsOperationOf C a = ⊥

-- each event of the operation is made in a hold of its own side's lock; of a collect both are made in one
abbrev pub IsMadeByEvents : Thread → Act → Type 0
IsMadeByEvents (M n) a = IsLine (M n) a
IsMadeByEvents (P n) a = IsLine (P n) a × IsEventLine a
IsMadeByEvents C a = ⊥

-- the first event of an operation
abbrev pub first_of : Act → Op
first_of (act.Bridge v kind n sort f) = op.Make sort f
first_of (act.Pass v x) = op.Lend v x
first_of (act.Surface v x) = op.Grip x
first_of (act.Dispose v) = op.Give v
first_of act.Collect = op.Begin
first_of act.BeginMark = op.Begin
first_of act.SweepMark = op.Sweep
first_of a = op.Line a

-- the second event, by the reply to the first one; none where the operation ends with its first
abbrev pub second_of : Act → Reply → Option Op
second_of (act.Bridge v kind n sort f) (says.Made p h) = Some (op.Adopt v kind n p h)
second_of (act.Pass v x) (says.H h) = Some (op.Land h x)
second_of (act.Surface v x) (says.Gripped p h sort f) = Some (op.Meet v sort f p h)
second_of (act.Dispose v) (says.H h) = Some (op.Release h)
second_of act.Collect (says.Mark j) = Some op.Sweep
second_of a reply = None

-- what the second event cites: the first one, but the sweep of a collect cites nothing
abbrev pub cited_by : Op → ℕ → Option ℕ
cited_by op.Sweep n = None
cited_by o n = Some n

-- the third event, by the second one and its reply: the release of a handle that a meet didn't take
abbrev pub third_of : Op → Reply → Option Op
third_of (op.Meet v sort f p h) (says.New m) = None
third_of (op.Meet v sort f p h) reply = Some (op.Release h)
third_of o reply = None

-- what an operation of two events answers: the second reply, but for `dispose` that of its give
abbrev pub answer_of : Act → Reply → Reply → Reply
answer_of (act.Dispose v) given released = given
answer_of a first second = second

-- the call of the managed side by which an event of its thread is made: reads, `weak` and `take` have calls of their
-- own
abbrev pub call_of : Op → ManagedCall
call_of (op.Line (act.Read k)) = call.Read (act.Read k)
call_of (op.Line (act.Await k)) = call.Read (act.Await k)
call_of (op.Line (act.Weak k v)) = call.Weak k v
call_of (op.Line (act.Take v)) = call.Take v
call_of o = call.Step

-- who makes such a call, and of what
abbrev pub IsCallBy : Thread → Op → ManagedCall → Type 0
IsCallBy t o (call.Read a) = IsManagedThread t × IsRead a × (o ≡ op.Line a)
IsCallBy t o (call.Weak k v) = IsManagedThread t × (k.0 < 64) × IsVar v × (o ≡ weak_op k v)
IsCallBy t o (call.Take v) = IsManagedThread t × IsVar v × (o ≡ take_op v)
IsCallBy t o call.Step = IsManagedStep t o

-- an event that a call of one of the sides makes, and by whom
pub record IsSideEvent (t : Thread) (o : Op) : Type 0 where
  pub peer : is_peer_event t o ≡ true → IsPeerCall t o
  pub managed : is_peer_event t o ≡ false → IsCallBy t o (call_of o)

-- the answer to a read of a managed thread is what the managed list gives that the thread knows now, and the thread's
-- own pin
pub record AnswersExactly (n : ℕ) (old new : View) (a : Act) (reply : Reply) : Type 0 where
  pub got : Got
  pub answer : reply ≡ reply_of got
  pub exact : IsExact (known new 0) (known old (caller_line (M n))) (cell_of a) got

abbrev pub ReadsExactly : Thread → View → View → Act → Reply → Type 0
ReadsExactly (M n) old new a reply = IsRead a → AnswersExactly n old new a reply
ReadsExactly t old new a reply = Unit {0}

-- the entry of a thread's event
abbrev pub entry_by : Thread → ℕ → ℕ → Op → Reply → Option ℕ → Entry
entry_by t index n o reply cites = numbered n (made_by t index o reply cites)

-- the numbers of the entries are above all that the view knows
abbrev pub AreAbove : View → List Entry → Type 0
AreAbove v [] = Unit {0}
AreAbove v (e ∷ es) = ((i : ℕ) → IsBelow e.number (known v i)) × AreAbove v es

-- a caller made these entries: they stand at the end of its own, with numbers above all that it knew, and it knows all
-- that it knew
pub record MakesAll (t : Thread) (old new : View) (es : List Entry) : Type 0 where
  pub own_more : line_known new (caller_line t) ≡ line_known old (caller_line t) ++ es
  pub more : (i : ℕ) → IsPrefix (known old i) (known new i)
  pub above : AreAbove old es

-- an operation ended with its first event, which answered this: what is left is nothing
pub record EndsWithFirst (a : Act) (answered : Reply) (rest : List Entry) (r : Receipt) : Type 0 where
  pub no_second : second_of a answered ≡ None
  pub nothing_more : rest ≡ []
  pub last : r.last ≡ r.first
  pub answer : r.reply ≡ answered

-- it ended with its second event
pub record EndsWithSecond (t : Thread) (index : ℕ) (a : Act)
    (answered : Reply) (rest : List Entry) (r : Receipt) : Type 0 where
  pub second : Op
  pub reply : Reply
  pub follows : second_of a answered ≡ Some second
  pub no_third : third_of second reply ≡ None
  pub one_more : rest ≡ entry_by t index r.last second reply (cited_by second r.first) ∷ []
  pub answer : r.reply ≡ answer_of a answered reply

-- it ended with its third event, which cites the second
pub record EndsWithThird (t : Thread) (index : ℕ) (a : Act)
    (answered : Reply) (rest : List Entry) (r : Receipt) : Type 0 where
  pub second : Op
  pub reply : Reply
  pub number : ℕ
  pub third : Op
  pub released : Reply
  pub follows : second_of a answered ≡ Some second
  pub then_follows : third_of second reply ≡ Some third
  pub two_more : rest ≡ entry_by t index number second reply
      (Some r.first) ∷ entry_by t index r.last third released (Some number) ∷ []
  pub answer : r.reply ≡ reply

-- the entries are those of an operation, all of them in turn; the receipt has the numbers of the first and the last one
-- and the reply
pub record IsOperation (t : Thread) (index : ℕ) (a : Act) (es : List Entry) (r : Receipt) : Type 0 where
  pub answered : Reply
  pub rest : List Entry
  pub all : es ≡ entry_by t index r.first (first_of a) answered None ∷ rest
  pub ends : EndsWithFirst a answered rest r
      ⊎ EndsWithSecond t index a answered rest r ⊎ EndsWithThird t index a answered rest r

-- the first event alone of an operation that has a second one, which isn't a release
pub record IsFirstAlone (t : Thread) (index : ℕ) (a : Act) (es : List Entry) : Type 0 where
  pub number : ℕ
  pub answered : Reply
  pub second : Op
  pub one : es ≡ entry_by t index number (first_of a) answered None ∷ []
  pub follows : second_of a answered ≡ Some second
  pub takes_memory : IsRelease second → ⊥

-- a caller ran an operation: it made just the operation's entries
pub record Runs (t : Thread) (old new : View) (index : ℕ) (a : Act) (r : Receipt) : Type 0 where
  pub entries : List Entry
  pub made : MakesAll t old new entries
  pub operation : IsOperation t index a entries r

-- a caller's operation found no memory: it made nothing, or the first event alone
pub record StopsWithoutMemory (t : Thread) (old new : View) (index : ℕ) (a : Act) : Type 0 where
  pub entries : List Entry
  pub made : MakesAll t old new entries
  pub begun : (entries ≡ []) ⊎ IsFirstAlone t index a entries

-- a managed thread read a cell without a lock: it made just the read's entry, whose answer has its cause in the words
-- that were read, and put it last in its own list of reads
pub record ReadsBy (old new : Pass) (index : ℕ) (a : Act) (g : Got) : Type 0 where
  pub number : ℕ
  pub reads : Reads (thread_number old.thread) index a g number old.view new.view
  pub runs : Runs old.thread old.view new.view index a (record { first = number; last = number; reply = reply_of g })
  pub entries : new.reads.entries ≡ old.reads.entries ++ entry_by old.thread index number
      (op.Line a) (reply_of g) None ∷ []
