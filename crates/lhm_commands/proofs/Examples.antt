-- The definitions, computed on short texts.
use Rattle.std.proofs.Common.{◌≡◌, [], ◌∷◌, ◌++◌, refl}
use Rattle.std.specs.{Prelude.codes, Fmt.digits}
use Rattle.linked_hash_map.specs.declared.replay.Answer.TheVariants.{New, Old, Missing, Refused}
use Rattle.lhm_commands.specs.{declared.stop.Stop.TheVariants.NotACommand, Grammar.lines_of, Grammar.words_of, Text.reply_text}
use Rattle.lhm_commands.specs.{Text.list_text, Stop.stop_text}

-- blank lines count, and bytes after the last newline are a line
lines_of-unended : lines_of (codes "a" ++ 10 ∷ 10 ∷ codes "bc") ≡ codes "a" ∷ [] ∷ codes "bc" ∷ []
lines_of-unended = refl

-- a newline at the end begins no line
lines_of-ended : lines_of (codes "a" ++ 10 ∷ []) ≡ codes "a" ∷ []
lines_of-ended = refl

-- any of the separators, one or more, and at the ends of the line too
words_of-separated : words_of (32 ∷ codes "insert" ++ 9 ∷ codes "01" ++ 32 ∷ 13 ∷ codes "5" ++ 13 ∷ [])
    ≡ codes "insert" ∷ codes "01" ∷ codes "5" ∷ []
words_of-separated = refl

words_of-blank : words_of (32 ∷ 9 ∷ 13 ∷ []) ≡ []
words_of-blank = refl

reply_text-new : reply_text (record { answer = New; len = 1; capacity = 3 }) ≡ codes "new len=1 cap=3" ++ 10 ∷ []
unfolding digits
reply_text-new = refl

reply_text-old : reply_text (record { answer = Old 10; len = 2; capacity = 2 }) ≡ codes "old 10 len=2 cap=2" ++ 10 ∷ []
unfolding digits
reply_text-old = refl

reply_text-missing : reply_text (record { answer = Missing; len = 0; capacity = 1 }) ≡ codes "missing len=0 cap=1" ++ 10 ∷ []
unfolding digits
reply_text-missing = refl

reply_text-refused : reply_text (record { answer = Refused 7 70; len = 0; capacity = 0 }) ≡ codes "refused 7 70 len=0 cap=0" ++ 10 ∷ []
unfolding digits
reply_text-refused = refl

list_text-nil : list_text [] ≡ codes "list" ++ 10 ∷ []
list_text-nil = refl

list_text-two : list_text ((2, 20) ∷ (1, 11) ∷ []) ≡ codes "list 2:20 1:11" ++ 10 ∷ []
unfolding digits
list_text-two = refl

stop_text-line : stop_text (NotACommand 3) ≡ codes "line 3: not a command"
unfolding digits
stop_text-line = refl
