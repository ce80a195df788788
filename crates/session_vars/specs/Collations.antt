-- The collations that clients name as they log in, by their numbers, and what SET NAMES makes of them. Empty are those that no
-- server knows or takes from a client, and those of character sets in which a byte of ASCII may be the end of a character
-- (big5, cp932, gb18030, gbk, sjis) or another letter (swe7): there a text has other quotes than it seems. Number 0 names no
-- collation: a client that leaves the choice to the server; the router chooses.
use Rattle.std.specs.Prelude.{ℕ, ◌-◌, Bool, not, nat_eq, nat_lt, List, [], ◌∷◌, length, slice_index_or, codes, if◌then◌else◌}

-- from 0 on, four in a line
abbrev pub first_names : List (List ℕ)
first_names =
    codes "utf8mb4 COLLATE utf8mb4_general_ci" ∷ codes "" ∷ codes "latin2 COLLATE latin2_czech_cs" ∷ codes "dec8" ∷
    codes "cp850" ∷ codes "latin1 COLLATE latin1_german1_ci" ∷ codes "hp8" ∷ codes "koi8r" ∷
    codes "latin1" ∷ codes "latin2" ∷ codes "" ∷ codes "ascii" ∷
    codes "ujis" ∷ codes "" ∷ codes "cp1251 COLLATE cp1251_bulgarian_ci" ∷ codes "latin1 COLLATE latin1_danish_ci" ∷
    codes "hebrew" ∷ codes "" ∷ codes "tis620" ∷ codes "euckr" ∷
    codes "latin7 COLLATE latin7_estonian_cs" ∷ codes "latin2 COLLATE latin2_hungarian_ci" ∷ codes "koi8u" ∷ codes "cp1251 COLLATE cp1251_ukrainian_ci" ∷
    codes "gb2312" ∷ codes "greek" ∷ codes "cp1250" ∷ codes "latin2 COLLATE latin2_croatian_ci" ∷
    codes "" ∷ codes "cp1257 COLLATE cp1257_lithuanian_ci" ∷ codes "latin5" ∷ codes "latin1 COLLATE latin1_german2_ci" ∷
    codes "armscii8" ∷ codes "utf8mb3 COLLATE utf8mb3_general_ci" ∷ codes "cp1250 COLLATE cp1250_czech_cs" ∷ codes "" ∷
    codes "cp866" ∷ codes "keybcs2" ∷ codes "macce" ∷ codes "macroman" ∷
    codes "cp852" ∷ codes "latin7" ∷ codes "latin7 COLLATE latin7_general_cs" ∷ codes "macce COLLATE macce_bin" ∷
    codes "cp1250 COLLATE cp1250_croatian_ci" ∷ codes "utf8mb4 COLLATE utf8mb4_general_ci" ∷ codes "utf8mb4 COLLATE utf8mb4_bin" ∷ codes "latin1 COLLATE latin1_bin" ∷
    codes "latin1 COLLATE latin1_general_ci" ∷ codes "latin1 COLLATE latin1_general_cs" ∷ codes "cp1251 COLLATE cp1251_bin" ∷ codes "cp1251" ∷
    codes "cp1251 COLLATE cp1251_general_cs" ∷ codes "macroman COLLATE macroman_bin" ∷ codes "" ∷ codes "" ∷
    codes "" ∷ codes "cp1256" ∷ codes "cp1257 COLLATE cp1257_bin" ∷ codes "cp1257" ∷
    codes "" ∷ codes "" ∷ codes "" ∷ codes "binary" ∷
    codes "armscii8 COLLATE armscii8_bin" ∷ codes "ascii COLLATE ascii_bin" ∷ codes "cp1250 COLLATE cp1250_bin" ∷ codes "cp1256 COLLATE cp1256_bin" ∷
    codes "cp866 COLLATE cp866_bin" ∷ codes "dec8 COLLATE dec8_bin" ∷ codes "greek COLLATE greek_bin" ∷ codes "hebrew COLLATE hebrew_bin" ∷
    codes "hp8 COLLATE hp8_bin" ∷ codes "keybcs2 COLLATE keybcs2_bin" ∷ codes "koi8r COLLATE koi8r_bin" ∷ codes "koi8u COLLATE koi8u_bin" ∷
    codes "utf8mb3 COLLATE utf8mb3_tolower_ci" ∷ codes "latin2 COLLATE latin2_bin" ∷ codes "latin5 COLLATE latin5_bin" ∷ codes "latin7 COLLATE latin7_bin" ∷
    codes "cp850 COLLATE cp850_bin" ∷ codes "cp852 COLLATE cp852_bin" ∷ codes "" ∷ codes "utf8mb3 COLLATE utf8mb3_bin" ∷
    codes "" ∷ codes "euckr COLLATE euckr_bin" ∷ codes "gb2312 COLLATE gb2312_bin" ∷ codes "" ∷
    codes "" ∷ codes "tis620 COLLATE tis620_bin" ∷ codes "" ∷ codes "ujis COLLATE ujis_bin" ∷
    codes "geostd8" ∷ codes "geostd8 COLLATE geostd8_bin" ∷ codes "latin1 COLLATE latin1_spanish_ci" ∷ codes "" ∷
    codes "" ∷ codes "eucjpms" ∷ codes "eucjpms COLLATE eucjpms_bin" ∷ codes "cp1250 COLLATE cp1250_polish_ci" ∷
    []

-- from 192 on: those of Unicode's languages
abbrev pub unicode_names : List (List ℕ)
unicode_names =
    codes "utf8mb3 COLLATE utf8mb3_unicode_ci" ∷ codes "utf8mb3 COLLATE utf8mb3_icelandic_ci" ∷ codes "utf8mb3 COLLATE utf8mb3_latvian_ci" ∷ codes "utf8mb3 COLLATE utf8mb3_romanian_ci" ∷
    codes "utf8mb3 COLLATE utf8mb3_slovenian_ci" ∷ codes "utf8mb3 COLLATE utf8mb3_polish_ci" ∷ codes "utf8mb3 COLLATE utf8mb3_estonian_ci" ∷ codes "utf8mb3 COLLATE utf8mb3_spanish_ci" ∷
    codes "utf8mb3 COLLATE utf8mb3_swedish_ci" ∷ codes "utf8mb3 COLLATE utf8mb3_turkish_ci" ∷ codes "utf8mb3 COLLATE utf8mb3_czech_ci" ∷ codes "utf8mb3 COLLATE utf8mb3_danish_ci" ∷
    codes "utf8mb3 COLLATE utf8mb3_lithuanian_ci" ∷ codes "utf8mb3 COLLATE utf8mb3_slovak_ci" ∷ codes "utf8mb3 COLLATE utf8mb3_spanish2_ci" ∷ codes "utf8mb3 COLLATE utf8mb3_roman_ci" ∷
    codes "utf8mb3 COLLATE utf8mb3_persian_ci" ∷ codes "utf8mb3 COLLATE utf8mb3_esperanto_ci" ∷ codes "utf8mb3 COLLATE utf8mb3_hungarian_ci" ∷ codes "utf8mb3 COLLATE utf8mb3_sinhala_ci" ∷
    codes "utf8mb3 COLLATE utf8mb3_german2_ci" ∷ codes "utf8mb3 COLLATE utf8mb3_croatian_ci" ∷ codes "utf8mb3 COLLATE utf8mb3_unicode_520_ci" ∷ codes "utf8mb3 COLLATE utf8mb3_vietnamese_ci" ∷
    codes "" ∷ codes "" ∷ codes "" ∷ codes "" ∷
    codes "" ∷ codes "" ∷ codes "" ∷ codes "utf8mb3 COLLATE utf8mb3_general_mysql500_ci" ∷
    codes "utf8mb4 COLLATE utf8mb4_unicode_ci" ∷ codes "utf8mb4 COLLATE utf8mb4_icelandic_ci" ∷ codes "utf8mb4 COLLATE utf8mb4_latvian_ci" ∷ codes "utf8mb4 COLLATE utf8mb4_romanian_ci" ∷
    codes "utf8mb4 COLLATE utf8mb4_slovenian_ci" ∷ codes "utf8mb4 COLLATE utf8mb4_polish_ci" ∷ codes "utf8mb4 COLLATE utf8mb4_estonian_ci" ∷ codes "utf8mb4 COLLATE utf8mb4_spanish_ci" ∷
    codes "utf8mb4 COLLATE utf8mb4_swedish_ci" ∷ codes "utf8mb4 COLLATE utf8mb4_turkish_ci" ∷ codes "utf8mb4 COLLATE utf8mb4_czech_ci" ∷ codes "utf8mb4 COLLATE utf8mb4_danish_ci" ∷
    codes "utf8mb4 COLLATE utf8mb4_lithuanian_ci" ∷ codes "utf8mb4 COLLATE utf8mb4_slovak_ci" ∷ codes "utf8mb4 COLLATE utf8mb4_spanish2_ci" ∷ codes "utf8mb4 COLLATE utf8mb4_roman_ci" ∷
    codes "utf8mb4 COLLATE utf8mb4_persian_ci" ∷ codes "utf8mb4 COLLATE utf8mb4_esperanto_ci" ∷ codes "utf8mb4 COLLATE utf8mb4_hungarian_ci" ∷ codes "utf8mb4 COLLATE utf8mb4_sinhala_ci" ∷
    codes "utf8mb4 COLLATE utf8mb4_german2_ci" ∷ codes "utf8mb4 COLLATE utf8mb4_croatian_ci" ∷ codes "utf8mb4 COLLATE utf8mb4_unicode_520_ci" ∷ codes "utf8mb4 COLLATE utf8mb4_vietnamese_ci" ∷
    []

abbrev pub names_of : ℕ → List ℕ
names_of number =
    if nat_eq number 255 then codes "utf8mb4"
    else if nat_lt number 192 then slice_index_or first_names number []
    else slice_index_or unicode_names (number - 192) []

-- clients may name it as they log in
abbrev pub is_served_collation : ℕ → Bool
is_served_collation number = not (nat_eq (length (names_of number)) 0)
