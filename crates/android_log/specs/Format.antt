-- The words of a global reference log, as .NET for Android writes it with `debug.mono.log` set to `gref`. All that is
-- fixed of the format stands here and nowhere else: a runtime that writes other words is read once these are changed.
use Rattle.std.specs.Prelude.{ℕ, List, [], ◌∷◌, codes}

-- what a mark begins with: a strong reference comes or goes, a weak one comes or goes
abbrev pub strong_comes : List ℕ
strong_comes = codes "+g+ "

abbrev pub strong_goes : List ℕ
strong_goes = codes "-g- "

abbrev pub weak_comes : List ℕ
weak_comes = codes "+w+ "

abbrev pub weak_goes : List ℕ
weak_goes = codes "-w- "

-- the words of a mark between its numbers, in this order; a mark of what goes has `gone_word` alone for the three
abbrev pub grefc_word : List ℕ
grefc_word = codes "grefc "

abbrev pub gwrefc_word : List ℕ
gwrefc_word = codes " gwrefc "

abbrev pub from_word : List ℕ
from_word = codes " obj-handle 0x"

abbrev pub new_word : List ℕ
new_word = codes " -> new-handle 0x"

abbrev pub gone_word : List ℕ
gone_word = codes " handle 0x"

abbrev pub kind_word : List ℕ
kind_word = codes "/"

abbrev pub rest_word : List ℕ
rest_word = codes " from "

-- the words of a type's line, around its handle, its key, the Java type and the managed type
abbrev pub type_word : List ℕ
type_word = codes "handle 0x"

abbrev pub key_word : List ℕ
key_word = codes "; key_handle "

abbrev pub java_word : List ℕ
java_word = codes ": Java Type: `"

abbrev pub managed_word : List ℕ
managed_word = codes "`; MCW type: `"

abbrev pub type_end : List ℕ
type_end = codes "`"

-- behind spaces, a frame of a stack begins so
abbrev pub frame_word : List ℕ
frame_word = codes "at "

-- where the name in a frame ends: before an offset, or a file; and before its arguments
abbrev pub offset_word : List ℕ
offset_word = codes " [0x"

abbrev pub file_word : List ℕ
file_word = codes " in "

-- names of frames that begin so are the runtime's own. They are classes and no namespaces: `Android.Runtime.` would
-- take the lists that an application makes with it.
abbrev pub runtime_classes : List (List ℕ)
runtime_classes = codes "Android.Runtime.AndroidObjectReferenceManager." ∷ codes "Android.Runtime.AndroidValueManager."
    ∷ codes "Android.Runtime.JNIEnv." ∷ codes "Android.Runtime.JNINativeWrapper." ∷ codes "Java.Interop."
    ∷ codes "Java.Lang.Object." ∷ codes "Java.Lang.Throwable." ∷ codes "System." ∷ codes "Microsoft.Android.Runtime."
    ∷ codes "(wrapper" ∷ []

-- what stands behind ` from ` in a mark's own line is no place where this begins it
abbrev pub thread_word : List ℕ
thread_word = codes "thread "

-- lines that begin so are of another kind, and never the place of a mark before them
abbrev pub other_kinds : List (List ℕ)
other_kinds = codes "*" ∷ codes "+" ∷ codes "-" ∷ codes "handle " ∷ codes "Disposing " ∷ codes "Finalizing "
    ∷ codes "Created " ∷ []

-- the bridge's own places: of what it weakens, and of what it makes strong again or lets go
abbrev pub weakens_word : List ℕ
weakens_word = codes "take_weak_global_ref"

abbrev pub restores_word : List ℕ
restores_word = codes "take_global_ref"

-- the tag in a logcat, and its two endings: with a colon, or with the process in brackets
abbrev pub tag_word : List ℕ
tag_word = codes "monodroid-gref"

abbrev pub colon_word : List ℕ
colon_word = codes ": "

abbrev pub bracket_word : List ℕ
bracket_word = codes "("

abbrev pub bracket_end : List ℕ
bracket_end = codes "): "
