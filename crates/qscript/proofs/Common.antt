-- Names of other crates and of the definitions, which many of these proofs use.
pub use Rattle.hex.specs.Hex.{IsBytes, encode_lower, is_hex_digit}
pub use Rattle.qkernel.proofs.Running.{headline_of, runs_more}
pub use Rattle.qkernel.specs.Kernel.{State}
pub use Rattle.qkernel.specs.Run.{AllKnown, IsWellRun}
pub use Rattle.qkernel.specs.Matching.{AnswersAtTraces, MatchesAt}
pub use Rattle.qmodel.specs.Trace.{Event, Run, Run as Events, Trace}
pub use Rattle.qmodel.specs.declared.call.Call.{Call}
pub use Rattle.qmodel.specs.declared.call.Completion.{Completion}
pub use Rattle.qmodel.specs.declared.open_call.Blocked.{Blocked}
pub use Rattle.qscript_text.proofs.Texts.Digits.{own}
pub use Rattle.qscript_text.proofs.Texts.Progress.{Stands, calls_more, not_long, not_too_long, roster_more}
pub use Rattle.qscript_text.proofs.Texts.Progress.{matches_first, matches_last, matches_more}
pub use Rattle.qscript_text.specs.Reading.Line.{is_text, line_of}
pub use Rattle.qscript_text.specs.Reading.Words.{words_of}
pub use Rattle.qscript_text.proofs.Words.{is_empty}
pub use Rattle.qrules.specs.Lawful.{event_call, facts_of}
pub use Rattle.qscript.specs.Enrolled.{AllJoin, roster_with}
pub use Rattle.qscript.specs.Printing.Buffer.{buffer_word}
pub use Rattle.qscript.specs.Printing.PrintingLaws.{GoesOn, HasLines, IsLines, IsOneLine, completions_in, with_more}
pub use Rattle.qscript.specs.Printing.PrintingLaws.{with_newline}
pub use Rattle.qscript.specs.Printing.OpenLine.{open_text}
pub use Rattle.qscript.specs.Printing.Printed.{call_by, ended_text, event_text, printed, shows_buffer, texts_from}
pub use Rattle.qscript.specs.Printing.Printer.{HasPrinted, HasRun, shows_at, shows_own}
pub use Rattle.qscript.specs.Printing.Words.{words_with_spaces}
pub use Rattle.qscript.specs.Running.{HasMade}
pub use Rattle.qscript.specs.Script.{CanRun, IsTextOfRun}
pub use Rattle.qscript.specs.Writing.WritingLaws.{IsSmall, IsTyped, IsTypedMember, IsTypedOperand, IsWritable, MayStand}
pub use Rattle.qscript.specs.Writing.WritingLaws.{ScriptsAreRead}
pub use Rattle.qscript.specs.Writing.Line.{call_line, member_line, operand_word}
pub use Rattle.qscript.specs.Writing.Text.{call_text, member_text}
pub use Rattle.qscript.specs.declared.printing.printer.Printer.{Printer}
pub use Rattle.qkernel_state.specs.Contents.{members_of}
pub use Rattle.qtables.specs.Members.{IsRoster, join_refusal, member_at, with_member}
pub use Rattle.qtables.specs.declared.member.Member.{Member}
pub use Rattle.std.proofs.Common.{Bool, Err, IsTrue, List, None, Ok, Option, Result, Some, [], add-one, add-zero, ap}
pub use Rattle.std.proofs.Common.{append-nil, append_assoc, arith, codes, cond, decimal, drop, false, get_or, inl, inr}
pub use Rattle.std.proofs.Common.{is_some, length, length-append, length-drop, length-take, map, nat_le, nat_lt, negsuc}
pub use Rattle.std.proofs.Common.{not, pos, position, refl, slice_get, slice_index, string_bytes, subst, suc, sym, take}
pub use Rattle.std.proofs.Common.{true, vec_len, zero, ℕ, ℤ, ◌%◌, ◌&&◌, ◌*◌, ◌++◌, ◌+◌, ◌-◌, ◌/◌, ◌<◌, ◌==◌, ◌^◌, ◌||◌}
pub use Rattle.std.proofs.Common.{◌∙◌, ◌∷◌, ◌≡◌, ◌≢◌, ◌≤◌}
pub use Rattle.std.proofs.lemmas.Bool.{and_parts, cases_Bool, eqb-false, le-leb, le-ltb, leb-false, leb-true, lt-leb}
pub use Rattle.std.proofs.lemmas.Bool.{lt-ltb, ltb-false, ltb-true, ne_eqb, or_right}
pub use Rattle.std.proofs.lemmas.Fmt.{decimal_nonempty, digits_decimal, digits_value-decimal, length-decimal-le}
pub use Rattle.std.proofs.lemmas.List.{get_or_past, length-map, map-append, take_all, take_more}
pub use Rattle.std.proofs.lemmas.List.Elements.{All-cons, All-nil}
pub use Rattle.std.proofs.lemmas.List.Splits.{length-slice_split, slice_split_at, slice_split_none}
pub use Rattle.std.proofs.lemmas.List.Sums.{count_by-le-length, list_all-from_AllPass}
pub use Rattle.std.specs.Io.KnownBytes.{Appends, Consumes}
pub use Rattle.std.specs.List.{All, AllByRecursion, cons_option, flat_map, list_all, position_or_len, slice_split}
pub use Rattle.std.specs.Option.{option_map, option_or}
pub use Rattle.std.specs.Str.{all_ascii_digits, bytes_eq}
