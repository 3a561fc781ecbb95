-- The names of all definitions: to unfold `whole` is to compute with them. Assumes nothing.
use Rattle.paper.specs.Reader.{when◌then◌else◌, ◌>>=◌, ◌>>◌, give, refuse, must, started, within, bytes, part, each, times, repeat, only, unless_end, to_end}
use Rattle.paper.specs.Numbers.{high_first, fixed, put_fixed, signed, unsigned, coding, low_first, v64, put_v64, put, number}
use Rattle.paper.specs.Lists.{same, any, all, place, place_named, places, total, fold, flat, last_or, given?, or}
use Rattle.paper.specs.Ledger.{nothing, text, a_string?, type_named, no_type, type_in, no_field, field_at, owns?, fields_of, called?, field_named, of?, here?, size, objects_of, before?, pool_before, base?, objects_in_all, holds?, object?}
use Rattle.paper.specs.Rules.{small_rules, strings_rules, with_strings, new?, type_of, entry_of?, entered?, place_rules, type_name_rules, super_named, chain_ends?, super_name_rules, super_of, around?, below?, clear?, in_range?, few_objects?, count_rules, restriction_rules, base_under, base_of, new_name, new_type, new_range, after_head, known_due, field_count_rules, field_name_rules, noted, after_new, after_entry, end_rules, values_due, old_due, new_dues, entry_dues, dues, single_kind?, element_kind?, kind?, kind_rules, element_kind_rules, types_rules, a_type?, kind_stands?, kinds_stand?, bool_rules, link?, link_rules, base_object?, annotation?, annotation_rules, closed, after_front, after_pair}
use Rattle.paper.specs.Maps.{key_and_rest, map_of, size_of, size?, keys_due, opened, at_first, through_maps, all_through}
use Rattle.paper.specs.File.{small, string_end, cut, string_block, restrictions, head, whole_of, kind, end_offset, new_field, upto_new, fields, entry, upto_entry, front, two_numbers, element, value, chunk, sized, data_region, kinds_named, pair_from, pair, pairs, file}
use Rattle.paper.specs.Pieces.{ends_from, string_pieces, option_pieces, head_pieces, whole_pieces, kind_pieces, new_pieces, zip, field_pieces, entry_pieces, entries_pieces, element_pieces, size_pieces, value_pieces, chunk_pieces, front_pieces}
use Rattle.paper.specs.Encode.{write, put_chunk, put_chunks, put_front, put_pair, put_pairs, encode}
use Rattle.paper.specs.Listing.{ascii, glyph, shown, decimal, decimalℤ, hex_digits, hex, joined, line, pair_line, string_line, or_dash, type_line, old_line, kind_word, new_line, element_word, value_line, print_entry, print_entries, print_chunk, print_pair, print_pairs, print}
use Rattle.paper.specs.Keeps.{every, hold?, in_turn, number?, only?, bytes?, head?, signed?, whole?, kind_kept?, new-field?, entry?, element?, sized?, value?, chunk?, chunks?, pair?, keeps?}
use Rattle.paper.specs.Scan.{bad, heed, byte_is, literal, ended, digit?, too_large?, digits_on, decimal_in, natural, negative, positive, integer, or_none, nibble, hex_on, hex_pairs, hex_bytes, read_pair, read_string, read_type, read_kind, read_new, read_flag, read_element, tabbed, read_value, map_words, read_map, new_text, entry_text, read_line, value_text, chunk_text, pair_text, scan, short, file_of}
use Rattle.paper.specs.Calls.{◌>>=◌ as ◌then=◌, ◌>>◌ as ◌then◌, need, found, answered, read, check, known, objects, stored, stored_all, values_in, chunk_values, field_values, column_by, column_of, asked, sought, count_values, fill_values, fitted, listing, build, cleared, over_front, left_in, how_many, writes, tells, after_check, after_objects, after_count, after_fill, after_listing, after_build}

unfoldable pub whole : Unit {0}
unfolding when◌then◌else◌ ◌>>=◌ ◌>>◌ give refuse must started within bytes part each times repeat only unless_end to_end high_first fixed put_fixed signed unsigned coding low_first v64 put_v64 put number same any all place place_named places total fold flat last_or given? or nothing text a_string? type_named no_type type_in no_field field_at owns? fields_of called? field_named of? here? size objects_of before? pool_before base? objects_in_all holds? object? small_rules strings_rules with_strings new? type_of entry_of? entered? place_rules type_name_rules super_named chain_ends? super_name_rules super_of around? below? clear? in_range? few_objects? count_rules restriction_rules base_under base_of new_name new_type new_range after_head known_due field_count_rules field_name_rules noted after_new after_entry end_rules values_due old_due new_dues entry_dues dues single_kind? element_kind? kind? kind_rules element_kind_rules types_rules a_type? kind_stands? kinds_stand? bool_rules link? link_rules base_object? annotation? annotation_rules closed after_front after_pair small string_end cut string_block restrictions head whole_of kind end_offset new_field upto_new fields entry upto_entry front key_and_rest map_of size_of size? keys_due opened at_first through_maps all_through two_numbers element value chunk sized data_region kinds_named pair_from pair pairs file ends_from string_pieces option_pieces head_pieces whole_pieces kind_pieces new_pieces zip field_pieces entry_pieces entries_pieces element_pieces size_pieces value_pieces chunk_pieces front_pieces write put_chunk put_chunks put_front put_pair put_pairs encode ascii glyph shown decimal decimalℤ hex_digits hex joined line pair_line string_line or_dash type_line old_line kind_word new_line element_word value_line print_entry print_entries print_chunk print_pair print_pairs print every hold? in_turn number? only? bytes? head? signed? whole? kind_kept? new-field? entry? element? sized? value? chunk? chunks? pair? keeps? bad heed byte_is literal ended digit? too_large? digits_on decimal_in natural negative positive integer or_none nibble hex_on hex_pairs hex_bytes read_pair read_string read_type read_kind read_new read_flag read_element tabbed read_value map_words read_map new_text entry_text read_line value_text chunk_text pair_text scan short file_of ◌then=◌ ◌then◌ need found answered read check known objects stored stored_all values_in chunk_values field_values column_by column_of asked sought count_values fill_values fitted listing build cleared over_front left_in how_many writes tells after_check after_objects after_count after_fill after_listing after_build
whole = tt
