-- The words of an entry before and behind its equals sign are plain: each byte is above the space and isn't the equals
-- sign. So none has a space or a newline, and none is the equals sign.
use Rattle.std.proofs.Common.{◌≡◌, ℕ, true, List, [], ◌∷◌, ◌++◌, Option, Some, None, codes, decimal, refl, arith}
use Rattle.joint_machine.specs.declared.names.Var.{Var}
use Rattle.joint_machine.specs.declared.names.StaticNo.{StaticNo}
use Rattle.joint_machine.specs.declared.names.Thread.{Thread}
use Rattle.joint_machine.specs.declared.names.Thread.TheVariants.{M, P, C}
use Rattle.joint_machine.specs.declared.names.Kind.{Kind}
use Rattle.joint_machine.specs.declared.names.Kind.TheVariants as kind
use Rattle.joint_machine.specs.declared.names.Sort.{Sort}
use Rattle.joint_machine.specs.declared.names.Sort.TheVariants as sort
use Rattle.joint_machine.specs.declared.names.Phase.{Phase}
use Rattle.joint_machine.specs.declared.names.Phase.TheVariants as phase
use Rattle.joint_machine.specs.declared.names.PhaseWord.{PhaseWord}
use Rattle.joint_machine.specs.declared.names.PhaseWord.TheVariants as word
use Rattle.joint_machine.specs.declared.lines.Act.{Act}
use Rattle.joint_machine.specs.declared.lines.Act.TheVariants as act
use Rattle.joint_machine.specs.declared.events.Op.{Op}
use Rattle.joint_machine.specs.declared.events.Op.TheVariants as op
use Rattle.joint_machine.specs.declared.events.Reply.{Reply}
use Rattle.joint_machine.specs.declared.events.Reply.TheVariants as says
use Rattle.bridge_script.specs.Words.{thread_text, var_text, optional_text, own_static, kind_text, sort_text, phase_word_text, act_words}
use Rattle.history_report.specs.Report.{phase_text, event_words, reply_words, cite_words, place_text}
use Rattle.history_report.specs.Lists.{lettered, listed}
use Rattle.text_words.proofs.Cutting.{every-append}
use Rattle.text_words.proofs.PlainWords.{IsPlainByte, Plain, AllPlain, is_plain, plain-decimal, plain-code, plain-lettered}

plain-var : (v : Var) → Plain (var_text v)
plain-var v = ((omega arith, λ e. omega (arith, e)), tt)

plain-optional : (v : Option Var) → Plain (optional_text v)
plain-optional None = plain-code (codes "-") refl
plain-optional (Some v) = plain-var v

plain-own : (t : Thread) (x : StaticNo) → Plain (own_static t x)
plain-own (M n) x = plain-lettered 103 x.0 refl
plain-own (P n) x = plain-lettered 115 x.0 refl
plain-own C x = plain-lettered 115 x.0 refl

plain-kind : (k : Kind) → Plain (kind_text k)
plain-kind kind.Plain = plain-code (codes "plain") refl
plain-kind kind.Leaf = plain-code (codes "leaf") refl
plain-kind kind.Bridge = plain-code (codes "bridge") refl
plain-kind kind.LeafBridge = plain-code (codes "leafbridge") refl

plain-sort : (s : Sort) → Plain (sort_text s)
plain-sort sort.User = plain-code (codes "user") refl
plain-sort sort.Framework = plain-code (codes "framework") refl

plain-phase : (p : Phase) → Plain (phase_text p)
plain-phase phase.Idle = plain-code (codes "idle") refl
plain-phase phase.Snapped = plain-code (codes "snapped") refl
plain-phase phase.Contracted = plain-code (codes "contracted") refl
plain-phase phase.Mirrored = plain-code (codes "mirrored") refl
plain-phase phase.Weakened = plain-code (codes "weakened") refl
plain-phase phase.Marked = plain-code (codes "marked") refl
plain-phase phase.Swept = plain-code (codes "swept") refl
plain-phase phase.Restored = plain-code (codes "restored") refl

plain-word : (w : PhaseWord) → Plain (phase_word_text w)
plain-word word.Cycle = plain-code (codes "cycle") refl
plain-word word.Snap = plain-code (codes "snap") refl
plain-word word.Contract = plain-code (codes "contract") refl
plain-word word.Mirror = plain-code (codes "mirror") refl
plain-word word.Weaken = plain-code (codes "weaken") refl
plain-word word.Mark = plain-code (codes "mark") refl
plain-word word.Sweep = plain-code (codes "sweep") refl
plain-word word.Restore = plain-code (codes "restore") refl
plain-word word.Resolve = plain-code (codes "resolve") refl

-- the words of an operation's line behind its thread
plain-act : (t : Thread) (a : Act) → AllPlain (act_words t a)
plain-act t (act.New v kind fields) = (plain-code (codes "new") refl, (plain-var v, (plain-kind kind, (plain-decimal fields, tt))))
plain-act t (act.Bridge v kind fields sort more) = (plain-code (codes "bridge") refl, (plain-var v, (plain-kind kind, (plain-decimal fields, (plain-sort sort, (plain-decimal more, tt))))))
plain-act t (act.Copy v w) = (plain-code (codes "copy") refl, (plain-var v, (plain-var w, tt)))
plain-act t (act.Set v i w) = (plain-code (codes "set") refl, (plain-var v, (plain-decimal i, (plain-optional w, tt))))
plain-act t (act.Get v w i) = (plain-code (codes "get") refl, (plain-var v, (plain-var w, (plain-decimal i, tt))))
plain-act t (act.Drop v) = (plain-code (codes "drop") refl, (plain-var v, tt))
plain-act t (act.Load v x) = (plain-code (codes "load") refl, (plain-var v, (plain-own t x, tt)))
plain-act t (act.Store x v) = (plain-code (codes "store") refl, (plain-own t x, (plain-optional v, tt)))
plain-act t (act.Weak k v) = (plain-code (codes "weak") refl, (plain-lettered 107 k.0 refl, (plain-var v, tt)))
plain-act t (act.Read k) = (plain-code (codes "read") refl, (plain-lettered 107 k.0 refl, tt))
plain-act t (act.Await k) = (plain-code (codes "wait") refl, (plain-lettered 107 k.0 refl, tt))
plain-act t (act.Take v) = (plain-code (codes "take") refl, (plain-var v, tt))
plain-act t (act.Pass v x) = (plain-code (codes "pass") refl, (plain-var v, (plain-lettered 115 x.0 refl, tt)))
plain-act t (act.Surface v x) = (plain-code (codes "surface") refl, (plain-var v, (plain-lettered 115 x.0 refl, tt)))
plain-act t (act.Dispose v) = (plain-code (codes "dispose") refl, (plain-var v, tt))
plain-act t (act.Handle v) = (plain-code (codes "handle") refl, (plain-var v, tt))
plain-act t (act.NewPeer v fields) = (plain-code (codes "new") refl, (plain-var v, (plain-decimal fields, tt)))
plain-act t (act.Global g v) = (plain-code (codes "global") refl, (plain-lettered 71 g.0 refl, (plain-var v, tt)))
plain-act t (act.WGlobal g v) = (plain-code (codes "wglobal") refl, (plain-lettered 71 g.0 refl, (plain-var v, tt)))
plain-act t (act.UnGlobal g) = (plain-code (codes "unglobal") refl, (plain-lettered 71 g.0 refl, tt))
plain-act t (act.WRead v g) = (plain-code (codes "wread") refl, (plain-var v, (plain-lettered 71 g.0 refl, tt)))
plain-act t act.Collect = (plain-code (codes "collect") refl, tt)
plain-act t act.BeginMark = (plain-code (codes "begin") refl, tt)
plain-act t (act.Slice n) = (plain-code (codes "slice") refl, (plain-decimal n, tt))
plain-act t act.SweepMark = (plain-code (codes "sweep") refl, tt)
plain-act t (act.PhaseLine word) = (plain-word word, tt)
plain-act t (act.Finalise n) = (plain-code (codes "finalise") refl, (plain-decimal n, tt))

pub plain-event : (t : Thread) (o : Op) → AllPlain (event_words t o)
plain-event t (op.Line a) = plain-act t a
plain-event t (op.Make s n) = (plain-code (codes "make") refl, (plain-sort s, (plain-decimal n, tt)))
plain-event t (op.Adopt v k n p h) = (plain-code (codes "adopt") refl, (plain-var v, (plain-kind k, (plain-decimal n, (plain-lettered 112 p.0 refl, (plain-lettered 104 h.0 refl, tt))))))
plain-event t (op.Lend v x) = (plain-code (codes "lend") refl, (plain-var v, (plain-lettered 115 x.0 refl, tt)))
plain-event t (op.Land h x) = (plain-code (codes "land") refl, (plain-lettered 104 h.0 refl, (plain-lettered 115 x.0 refl, tt)))
plain-event t (op.Grip x) = (plain-code (codes "grip") refl, (plain-lettered 115 x.0 refl, tt))
plain-event t (op.Meet v s n p h) = (plain-code (codes "meet") refl, (plain-var v, (plain-lettered 112 p.0 refl, (plain-lettered 104 h.0 refl, (plain-sort s, (plain-decimal n, tt))))))
plain-event t (op.Give v) = (plain-code (codes "give") refl, (plain-var v, tt))
plain-event t (op.Release h) = (plain-code (codes "release") refl, (plain-lettered 104 h.0 refl, tt))
plain-event t (op.Snap k) = (plain-code (codes "snap") refl, (plain-decimal k.0, tt))
plain-event t (op.Contract k) = (plain-code (codes "contract") refl, (plain-decimal k.0, tt))
plain-event t (op.Mirror k) = (plain-code (codes "mirror") refl, (plain-decimal k.0, tt))
plain-event t (op.Weaken h) = (plain-code (codes "weaken") refl, (plain-lettered 104 h.0 refl, tt))
plain-event t op.Begin = (plain-code (codes "begin") refl, tt)
plain-event t op.Sweep = (plain-code (codes "sweep") refl, tt)
plain-event t (op.Restore h) = (plain-code (codes "restore") refl, (plain-lettered 104 h.0 refl, tt))
plain-event t (op.Clear k) = (plain-code (codes "clear") refl, (plain-decimal k.0, tt))
plain-event t (op.Resolve k) = (plain-code (codes "resolve") refl, (plain-decimal k.0, tt))
plain-event t (op.Abandon k) = (plain-code (codes "abandon") refl, (plain-decimal k.0, tt))
plain-event t (op.Refused w) = (plain-code (codes "refused") refl, (plain-word w, tt))

pub plain-reply : (r : Reply) → AllPlain (reply_words r)
plain-reply says.Ok = (plain-code (codes "ok") refl, tt)
plain-reply says.Empty = (plain-code (codes "empty") refl, tt)
plain-reply says.Range = (plain-code (codes "range") refl, tt)
plain-reply says.Null = (plain-code (codes "null") refl, tt)
plain-reply says.Taken = (plain-code (codes "taken") refl, tt)
plain-reply says.Gone = (plain-code (codes "gone") refl, tt)
plain-reply says.Unset = (plain-code (codes "unset") refl, tt)
plain-reply says.Full = (plain-code (codes "full") refl, tt)
plain-reply says.Plain = (plain-code (codes "plain") refl, tt)
plain-reply says.NoMark = (plain-code (codes "nomark") refl, tt)
plain-reply says.More = (plain-code (codes "more") refl, tt)
plain-reply says.Done = (plain-code (codes "done") refl, tt)
plain-reply (says.Renewed h) = (plain-code (codes "alive") refl, (plain-lettered 104 h.0 refl, tt))
plain-reply says.Cleared = (plain-code (codes "cleared") refl, tt)
plain-reply (says.M m) = (plain-lettered 109 m.0 refl, tt)
plain-reply (says.P p) = (plain-lettered 112 p.0 refl, tt)
plain-reply (says.H h) = (plain-lettered 104 h.0 refl, tt)
plain-reply (says.New m) = (plain-lettered 109 m.0 refl, (plain-code (codes "new") refl, tt))
plain-reply (says.Twin m) = (plain-lettered 109 m.0 refl, (plain-code (codes "twin") refl, tt))
plain-reply (says.Made p h) = (plain-lettered 112 p.0 refl, (plain-lettered 104 h.0 refl, tt))
plain-reply (says.Gripped p h s n) = (plain-lettered 112 p.0 refl, (plain-lettered 104 h.0 refl, (plain-sort s, (plain-decimal n, tt))))
plain-reply (says.Pending k) = (plain-code (codes "pending") refl, (plain-decimal k.0, tt))
plain-reply (says.Pinned m) = (plain-code (codes "pinned") refl, (plain-lettered 109 m.0 refl, tt))
plain-reply (says.Mark j) = (plain-decimal j.0, tt)
plain-reply (says.MarkOpen j) = (plain-code (codes "marking") refl, (plain-decimal j.0, tt))
plain-reply (says.CycleOpen k) = (plain-code (codes "open") refl, (plain-decimal k.0, tt))
plain-reply (says.At p) = (plain-code (codes "at") refl, (plain-phase p, tt))
plain-reply (says.Snapped n s) = (plain-decimal n, (plain-code (codes "freed") refl, tt))
plain-reply (says.Sccs n m) = (plain-decimal n, (plain-code (codes "sccs") refl, (plain-decimal m, (plain-code (codes "xrefs") refl, tt))))
plain-reply (says.Refs n) = (plain-decimal n, (plain-code (codes "refs") refl, tt))
plain-reply (says.Swept j s) = (plain-decimal j.0, (plain-code (codes "freed") refl, tt))
plain-reply (says.Freed s) = (plain-code (codes "freed") refl, tt)
plain-reply (says.Took s) = tt

plain-letters : (b : ℕ) (ns : List ℕ) → is_plain b ≡ true → AllPlain (lettered b ns)
plain-letters b [] e = tt
plain-letters b (n ∷ ns) e = (plain-lettered b n e, plain-letters b ns e)

pub plain-listed : (b : ℕ) (ns : List ℕ) → is_plain b ≡ true → AllPlain (listed b ns)
plain-listed b [] e = (plain-code (codes "-") refl, tt)
plain-listed b (n ∷ ns) e = plain-letters b (n ∷ ns) e

pub plain-cites : (c : Option ℕ) → AllPlain (cite_words c)
plain-cites None = tt
plain-cites (Some n) = (plain-lettered 64 n refl, tt)

plain-thread : (t : Thread) → Plain (thread_text t)
plain-thread (M n) = plain-lettered 109 n refl
plain-thread (P n) = plain-lettered 112 n refl
plain-thread C = plain-code (codes "c") refl

pub plain-place : (t : Thread) (line : ℕ) → Plain (place_text t line)
plain-place t line = every-append IsPlainByte (thread_text t) (codes "." ++ decimal line) (plain-thread t) (plain-lettered 46 line refl)
